use Rattle.std.proofs.lemmas.Grind.{common_steps}
use Rattle.std.proofs.Common.{arith}
use Rattle.tk_distance.proofs.exact.roots.root_up.Goals as goal

pub returns-then-below-x : goal.returns-then-below-x
returns-then-below-x c = grind (arith, common_steps)

pub returns-else-below-x : goal.returns-else-below-x
returns-else-below-x c = grind (arith, common_steps)
