use Rattle.std.proofs.Common.{◌≡◌, length}
use Rattle.tk_calls.proofs.benchmarks.places.sample.Given as goal

abbrev pub invariant-loop-i : goal.invariant-loop-i
invariant-loop-i l = length l.points ≡ l.count
