use Rattle.std.proofs.Common.{◌≡◌, ◌∙◌, ap, length, take, drop, arith}
use Rattle.std.specs.Prelude.{sum_by}
use Rattle.std.proofs.lemmas.List.{take_at}
use Rattle.tk_segments.specs.Segments.{segment_size}
use Rattle.tk_segments.proofs.SeenTours.Names.{StayFound-front}
use Rattle.tk_segments.proofs.SeenTours.Searching.{sum_all}
use Rattle.tk_segments.proofs.turning.turn_rest.Goals as goal

pub returns-clause-shown : goal.returns-clause-shown
returns-clause-shown c = λ order le.
    let cut = c.cut_segments-i.new in
    let new = c.turn_segments.new.segments in
    let size : length new ≡ cut.segments.len =
    omega (arith, cut.segments.ok.0, c.deref_mut.ensures.len, c.turn_segments.ensures.same_length) in
    let last : c.len-j.result ≡ length cut.segments.items = omega (arith, cut.segments.ok.0, c.len-j.ensures) in
    let whole = ap (λ k. sum_by segment_size (take k cut.segments.items)) last
    ∙ sum_all c.args.size cut.segments.items c.cut_segments-i.ensures.kept.laid in
    rw (
      take_at new (drop (length new) cut.segments.items) cut.segments.len size,
      c.turn_segments.ensures.shown order le,
      c.deref_mut.ensures.value,
      whole,
      c.cut_segments-i.ensures.shown order,
    )

pub returns-clause-kept : goal.returns-clause-kept
returns-clause-kept c =
    let turned = c.turn_segments.ensures in
    StayFound-front c.args.size 32 _ _ _ c.deref_mut.result.now c.turn_segments.new.segments _ _ _
    c.deref_mut.ensures.value
    (omega (arith, c.cut_segments-i.new.segments.ok.0, c.deref_mut.ensures.len, turned.same_length))
    c.cut_segments-i.ensures.kept turned.laid turned.names turned.found
