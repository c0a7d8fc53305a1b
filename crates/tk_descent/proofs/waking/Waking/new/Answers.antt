use Rattle.std.proofs.Common.{ap, arith}
use Rattle.tk_descent.proofs.waking.Waking.new.Goals as goal

pub returns : goal.returns
returns c = (ap (λ b. b.items) c.in_ok-queue.ensures, omega (arith, c.in_ok-awake.ensures.len))
