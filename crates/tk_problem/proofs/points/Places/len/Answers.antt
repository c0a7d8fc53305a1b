use Rattle.std.proofs.Common.{refl}
use Rattle.tk_problem.proofs.points.Places.len.Goals as goal

pub returns-in-Fine : goal.returns-in-Fine
returns-in-Fine c = rw c.in-Fine.is refl
