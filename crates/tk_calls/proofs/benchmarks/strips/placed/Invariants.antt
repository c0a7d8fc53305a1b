use Rattle.std.proofs.Common.{◌≡◌, length}
use Rattle.tk_calls.proofs.benchmarks.strips.placed.Given as goal

abbrev pub invariant-loop-city : goal.invariant-loop-city
invariant-loop-city l = length l.points ≡ l.n
