use Rattle.std.proofs.Common.{◌<◌, get_or, length, arith}
use Rattle.std.proofs.lemmas.List.Edits.{map_over_more}
use Rattle.std.proofs.lemmas.List.{get_or_default}
use Rattle.tk_segments.specs.Segments.{turned_segment}
use Rattle.tk_segments.specs.declared.segment.Segment.{Segment}
use Rattle.tk_segments.proofs.NoSegment.{no_segment}
use Rattle.tk_segments.proofs.turning.turn_round.Goals as goal

pub loop-k-preserved : goal.loop-k-preserved
loop-k-preserved c =
    let h = c.loop-k in
    let x : Segment = get_or h.segments h.k no_segment in
    let lt : h.k < length h.segments = omega (arith, h.auto.segments, c.loop-k-test.true) in
    map_over_more turned_segment c.reverse.new.self h.segments h.k x (omega (arith, c.loop-k-test.true)) h.invariant
    (get_or_default h.segments h.k no_segment x lt)
