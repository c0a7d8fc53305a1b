use Rattle.std.proofs.Common.{◌≡◌, ◌+◌, ◌-◌, ◌∙◌, ◌++◌, ℕ, List, length, take, drop, sym, ap, arith}
use Rattle.std.proofs.lemmas.List.{length-append, length-take-le, length-drop}
use Rattle.tk_tour.specs.Reversal.{begun_at}
use Rattle.tk_segments.specs.Segments.{shown_by, segment_size}
use Rattle.tk_tour.proofs.StoredTours.Places.{length-begun_at}
use Rattle.tk_segments.proofs.SeenTours.SeenPlaces.{length-shown_by}
use Rattle.tk_segments.proofs.SeenTours.Splitting.{part_facts, shown_by-parts}
use Rattle.tk_segments.proofs.SeenTours.WritingRound.{put_in, written_before, written_after, written_both}
use Rattle.tk_segments.proofs.writing.write_segment_begun.Goals as goal

pub returns-then-segment-begin : goal.returns-then-segment-begin
returns-then-segment-begin c =
    let n = c.args.size in
    let m = n - c.args.begin in
    let segment = c.args.segment in
    let list = c.args.list.now in
    let part = shown_by c.args.order.now segment in
    let size : length part ≡ segment_size segment =
    length-shown_by n c.args.order.now segment c.requires.within (omega (arith, c.requires.length)) in
    let given : c.write_segment.new.list ≡ put_in (segment.start + m) part list =
    c.write_segment.ensures ∙ ap (λ u. take (segment.start + m) list ++ (part ++ drop (segment.start + m + u) list))
    (sym size) in
    written_before n c.args.begin segment.start list part c.write_segment.new.list c.requires.list
    (omega (arith, c.requires.begin)) (omega (arith, size, c.if-segment-begin.true)) given
    ∙ ap (λ u. take segment.start (begun_at m list) ++ (part ++ drop (segment.start + u) (begun_at m list))) size

pub returns-then-begin-segment : goal.returns-then-begin-segment
returns-then-begin-segment c =
    let n = c.args.size in
    let b = c.args.begin in
    let m = n - b in
    let segment = c.args.segment in
    let list = c.args.list.now in
    let new = c.write_segment-then-begin-segment.new.list in
    let part = shown_by c.args.order.now segment in
    let size : length part ≡ segment_size segment =
    length-shown_by n c.args.order.now segment c.requires.within (omega (arith, c.requires.length)) in
    let given : new ≡ put_in (segment.start - b) part list =
    c.write_segment-then-begin-segment.ensures ∙ ap (λ u. take (segment.start - b) list ++
    (part ++ drop (segment.start - b + u) list))
    (sym size) in
    written_after n b segment.start list part new c.requires.list c.if-begin-segment.true
    (omega (arith, size, c.requires.fits)) given
    ∙ ap (λ u. take segment.start (begun_at m list) ++ (part ++ drop (segment.start + u) (begun_at m list))) size

pub returns-else-begin-segment : goal.returns-else-begin-segment
returns-else-begin-segment c =
    let n = c.args.size in
    let b = c.args.begin in
    let m = n - b in
    let segment = c.args.segment in
    let order = c.args.order.now in
    let list = c.args.list.now in
    let mid = c.write_segment-else-begin-segment.new.list in
    let new = c.write_segment-else-begin-segment-2.new.list in
    let one = c.parts_of.result.0 in
    let two = c.parts_of.result.1 in
    let d = b - segment.start in
    let p = part_facts n d 0 segment one two c.parts_of.ensures c.requires.within
    (omega (arith, c.if-segment-begin.false)) in
    let part = shown_by order segment in
    let first = shown_by order one in
    let second = shown_by order two in
    let l1 : length first ≡ segment_size one =
    length-shown_by n order one p.within_one (omega (arith, c.requires.length)) in
    let l2 : length second ≡ segment_size two =
    length-shown_by n order two p.within_two (omega (arith, c.requires.length)) in
    let size : length part ≡ segment_size segment =
    length-shown_by n order segment c.requires.within (omega (arith, c.requires.length)) in
    let d_is : length first ≡ d = l1 ∙ p.sizes.0 in
    let start : one.start ≡ segment.start = c.parts_of.ensures.starts.0 in
    let at : one.start + m ≡ segment.start + m = ap (λ u. u + m) start in
    let U : List ℕ = begun_at m list in
    let U1 : List ℕ = begun_at m mid in
    let U2 : List ℕ = begun_at m new in
    let given1 : mid ≡ put_in (segment.start + m) first list =
    c.write_segment-else-begin-segment.ensures ∙ ap (λ u. take u list ++ (first ++ drop (u + segment_size one) list)) at
    ∙ ap (λ u. take (segment.start + m) list ++ (first ++ drop (segment.start + m + u) list)) (sym l1) in
    let before : U1 ≡ put_in segment.start first U =
    written_before n b segment.start list first mid c.requires.list (omega (arith, c.requires.begin))
    (omega (arith, d_is, c.if-begin-segment.false)) given1 in
    let lm : length mid ≡ n = sym (length-begun_at m mid) ∙ ap length before
    ∙ omega (
      arith,
      length-append (take segment.start U) (first ++ drop (segment.start + length first) U),
      length-append first (drop (segment.start + length first) U),
      length-take-le segment.start U (omega (arith, length-begun_at m list, c.requires.list, c.requires.fits)),
      length-drop (segment.start + length first) U,
      length-begun_at m list,
      c.requires.list,
      d_is,
      c.requires.begin,
      c.if-begin-segment.false,
    ) in
    let none : 0 ≡ b - b = omega arith in
    let given2 : new ≡ put_in (b - b) second mid =
    c.write_segment-else-begin-segment-2.ensures ∙ ap (λ u. take 0 mid ++ (second ++ drop (0 + u) mid)) (sym l2)
    ∙ ap (λ u. take u mid ++ (second ++ drop (u + length second) mid)) none in
    let after : U2 ≡ put_in b second U1 =
    written_after n b b mid second new lm (omega arith)
    (omega (arith, l2, p.sizes, c.requires.fits, c.if-begin-segment.false)) given2 in
    let b_is : b ≡ segment.start + length first = omega (arith, d_is, c.if-begin-segment.false) in
    let after' : U2 ≡ put_in (segment.start + length first) second U1 = after ∙ ap (λ u. put_in u second U1) b_is in
    written_both segment.start U first second U1 U2
    (omega (arith, length-begun_at m list, c.requires.list, b_is, c.requires.begin)) before after'
    ∙ ap (λ u. put_in segment.start u U) (sym (shown_by-parts order d 0 segment one two c.parts_of.ensures))
    ∙ ap (λ u. take segment.start U ++ (part ++ drop (segment.start + u) U)) size
