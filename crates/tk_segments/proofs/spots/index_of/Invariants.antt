use Rattle.std.proofs.Common.{◌<◌, ◌≤◌, ◌-◌, length, get_or}
use Rattle.tk_segments.proofs.NoSegment.{no_segment}
use Rattle.tk_segments.proofs.spots.index_of.Given as goal

abbrev pub invariant-loop-index : goal.invariant-loop-index
invariant-loop-index l = record {
  index_in : l.index < length l.segments;
  from : (get_or l.segments l.index no_segment).low ≤ l.place;
}

abbrev pub decreases-loop-index : goal.decreases-loop-index
decreases-loop-index l = l.size - (get_or l.segments l.index no_segment).low
