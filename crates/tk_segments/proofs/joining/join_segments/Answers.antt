use Rattle.std.proofs.Common.{◌≡◌, ◌+◌, ◌<◌, ◌∙◌, ℕ, List, length, take, drop, ap, sym, subst, arith, get_or}
use Rattle.std.specs.Prelude.{sum_by}
use Rattle.std.proofs.lemmas.List.{append-nil, take_at}
use Rattle.tk_tour.specs.Reversal.{begun_at}
use Rattle.tk_segments.specs.Segments.{segment_size, shown, AreLaidOut, HaveNames, CanBeFound}
use Rattle.tk_segments.specs.declared.segment.Segment.{Segment}
use Rattle.tk_segments.proofs.WrittenFronts.{at_front}
use Rattle.tk_segments.proofs.NoSegment.{no_segment}
use Rattle.tk_segments.proofs.SeenTours.Searching.{start_is, sum_all, sum_more, sum_mono}
use Rattle.tk_segments.proofs.joining.join_segments.Goals as goal

-- the start of a segment is within the array
begins_in : (n k : ℕ) (xs : List Segment) (segment : Segment) → AreLaidOut n xs → k < length xs → segment ≡ get_or xs k
    segment →
    (segment.start < n) × (segment.start ≡ sum_by segment_size (take k xs))
begins_in n k xs segment laid lt e =
    let w = laid.within k segment lt in
    let s : segment.start ≡ sum_by segment_size (take k xs) = ap (λ (r : Segment). r.start) e ∙ start_is n k xs segment
    laid lt in (
      omega (
        arith,
        s,
        sum_more k xs segment lt,
        w,
        sum_mono (k + 1) (length xs) xs (omega (arith, lt)),
        sum_all n xs
            laid,
      ),
      s,
    )

pub returns-then-k-len-clause-first : goal.returns-then-k-len-clause-first
returns-then-k-len-clause-first c =
    let xs = c.args.segments.now.items in
    let lt : c.args.k < length xs = omega (arith, c.requires.index, c.args.segments.now.ok.0) in
    let w = c.requires.laid.within c.args.k no_segment lt in
    omega (
      arith,
      sum_more c.args.k xs no_segment lt,
      w,
      sum_mono (c.args.k + 1) (length xs) xs (omega (arith, lt)),
      sum_all c.args.size xs c.requires.laid,
    )

pub returns-then-k-len-clause-shown : goal.returns-then-k-len-clause-shown
returns-then-k-len-clause-shown c = λ order le. c.join_parts.ensures.shown order
    ∙ sym (append-nil (shown order c.args.segments.now.items))

pub returns-clause-first : goal.returns-clause-first
returns-clause-first c =
    let xs = c.args.segments.now.items in
    let lt : c.args.k < length xs = omega (arith, c.requires.index, c.args.segments.now.ok.0) in
    (begins_in c.args.size c.args.k xs c.index.result.now c.requires.laid lt c.index.ensures).0

pub returns-clause-shown : goal.returns-clause-shown
returns-clause-shown c = λ order le.
    let xs = c.args.segments.now.items in
    let lt : c.args.k < length xs = omega (arith, c.requires.index, c.args.segments.now.ok.0) in
    let e : c.deref_mut.result.now ≡ xs = c.deref_mut.ensures.value in
    let new = c.begin_segment.new.segments in
    let size : length new ≡ c.args.segments.now.len =
    omega (arith, c.args.segments.now.ok.0, c.deref_mut.ensures.len, c.begin_segment.ensures.same_length) in
    let v = (begins_in c.args.size c.args.k xs c.index.result.now c.requires.laid lt c.index.ensures).1 in
    c.join_parts-2.ensures.shown order
    ∙ ap (shown order) (take_at new (drop (length new) xs) c.args.segments.now.len size)
    ∙ c.begin_segment.ensures.shown order le
    ∙ ap (λ u. begun_at (sum_by segment_size (take c.args.k u)) (shown order u)) e
    ∙ ap (λ u. begun_at u (shown order xs)) (sym v)

pub join_parts-requires-2-clause-laid : goal.join_parts-requires-2-clause-laid
join_parts-requires-2-clause-laid c =
    at_front (AreLaidOut c.args.size) _ _ _
    (omega (arith, c.args.segments.now.ok.0, c.deref_mut.ensures.len, c.begin_segment.ensures.same_length))
    c.begin_segment.ensures.laid

pub returns-clause-names : goal.returns-clause-names
returns-clause-names c = λ names.
    c.join_parts-2.ensures.names
    (at_front HaveNames _ _ _
    (omega (arith, c.args.segments.now.ok.0, c.deref_mut.ensures.len, c.begin_segment.ensures.same_length))
    (c.begin_segment.ensures.names (subst HaveNames (sym c.deref_mut.ensures.value) names)))

pub returns-clause-found : goal.returns-clause-found
returns-clause-found c = λ names found.
    let table = c.args.table.now in
    let P : List Segment → Type 0 = λ u. CanBeFound c.args.size 32 u table in
    let size : length c.begin_segment.new.segments ≡ c.args.segments.now.len =
    omega (arith, c.args.segments.now.ok.0, c.deref_mut.ensures.len, c.begin_segment.ensures.same_length) in
    c.join_parts-2.ensures.found
    (at_front HaveNames _ _ _ size
    (c.begin_segment.ensures.names (subst HaveNames (sym c.deref_mut.ensures.value) names)))
    (at_front P _ _ _ size (c.begin_segment.ensures.found table (subst P (sym c.deref_mut.ensures.value) found)))
