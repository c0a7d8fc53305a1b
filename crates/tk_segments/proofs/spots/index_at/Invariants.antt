use Rattle.std.proofs.Common.{◌<◌, ◌≤◌, ◌-◌, take, length}
use Rattle.std.specs.Prelude.{sum_by}
use Rattle.tk_segments.specs.Segments.{segment_size}
use Rattle.tk_segments.proofs.spots.index_at.Given as goal

abbrev pub invariant-loop-high : goal.invariant-loop-high
invariant-loop-high l = record {
  order : l.low < l.high;
  high_in : l.high ≤ length l.segments;
  from : sum_by segment_size (take l.low l.segments) ≤ l.v;
  to : l.v < sum_by segment_size (take l.high l.segments);
}

abbrev pub decreases-loop-high : goal.decreases-loop-high
decreases-loop-high l = l.high - l.low
