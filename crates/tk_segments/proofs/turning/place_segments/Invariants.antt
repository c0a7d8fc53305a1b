use Rattle.std.proofs.Common.{◌≡◌, ◌+◌, ◌++◌, take, drop}
use Rattle.std.specs.Prelude.{sum_by}
use Rattle.tk_segments.specs.Segments.{placed, segment_size}
use Rattle.tk_segments.proofs.turning.place_segments.Given as goal

abbrev pub invariant-loop-k : goal.invariant-loop-k
invariant-loop-k l = record {
  segments : l.segments ≡ placed l.initial.v (take l.k l.initial.segments) ++ drop l.k l.initial.segments;
  v : l.v ≡ l.initial.v + sum_by segment_size (take l.k l.initial.segments);
}
