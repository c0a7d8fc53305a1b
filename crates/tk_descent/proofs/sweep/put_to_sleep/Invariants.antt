use Rattle.std.proofs.Common.{◌≡◌, length}
use Rattle.tk_descent.proofs.sweep.put_to_sleep.Given as goal

abbrev pub invariant-loop-city : goal.invariant-loop-city
invariant-loop-city l = l.waking.size ≡ l.fn.waking.size

abbrev pub decreases-loop-city : goal.decreases-loop-city
decreases-loop-city l = length l.waking.queue
