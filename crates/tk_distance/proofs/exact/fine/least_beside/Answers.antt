use Rattle.std.proofs.lemmas.Grind.{common_steps}
use Rattle.std.proofs.Common.{arith}
use Rattle.tk_distance.proofs.exact.fine.least_beside.Goals as goal

pub returns-then-covers : goal.returns-then-covers
returns-then-covers c = grind (arith, common_steps)

pub returns-else-not-covers : goal.returns-else-not-covers
returns-else-not-covers c = grind (arith, common_steps)
