use Rattle.std.proofs.Common.{◌≡◌, length, drop, arith}
use Rattle.std.proofs.lemmas.List.{take_at}
use Rattle.tk_segments.proofs.SeenTours.Names.{StayFound-front}
use Rattle.tk_segments.proofs.turning.begin_seen.Goals as goal

pub returns-clause-shown : goal.returns-clause-shown
returns-clause-shown c = λ order le.
    let cut = c.cut_segments-k.new in
    let new = c.begin_segment.new.segments in
    let size : length new ≡ cut.segments.len =
    omega (arith, cut.segments.ok.0, c.deref_mut.ensures.len, c.begin_segment.ensures.same_length) in
    rw (
      take_at new (drop (length new) cut.segments.items) cut.segments.len size,
      c.begin_segment.ensures.shown order le,
      c.deref_mut.ensures.value,
      c.cut_segments-k.ensures.begins,
      c.cut_segments-k.ensures.shown order,
    )

pub returns-clause-kept : goal.returns-clause-kept
returns-clause-kept c =
    let begun = c.begin_segment.ensures in
    StayFound-front c.args.size 32 _ _ _ c.deref_mut.result.now c.begin_segment.new.segments _ _ _
    c.deref_mut.ensures.value
    (omega (arith, c.cut_segments-k.new.segments.ok.0, c.deref_mut.ensures.len, begun.same_length))
    c.cut_segments-k.ensures.kept begun.laid begun.names begun.found
