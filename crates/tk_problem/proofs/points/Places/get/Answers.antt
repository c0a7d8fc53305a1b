use Rattle.std.proofs.Common.{arith, refl}
use Rattle.std.proofs.lemmas.Grind.{common_steps}
use Rattle.tk_problem.proofs.points.Places.get.Goals as goal

pub returns-in-Whole : goal.returns-in-Whole
returns-in-Whole c = grind (arith, common_steps)

pub returns-in-Fine : goal.returns-in-Fine
returns-in-Fine c = rw c.in-Fine.is refl
