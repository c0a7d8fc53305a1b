use Rattle.std.proofs.Common.{◌≡◌, ◌++◌, map, take, drop}
use Rattle.tk_segments.specs.Segments.{turned_segment}
use Rattle.tk_segments.proofs.turning.turn_round.Given as goal

abbrev pub invariant-loop-k : goal.invariant-loop-k
invariant-loop-k l = l.segments ≡ map turned_segment (take l.k l.initial.segments) ++ drop l.k l.initial.segments
