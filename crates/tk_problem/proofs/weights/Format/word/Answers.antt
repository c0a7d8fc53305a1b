use Rattle.std.proofs.Common.{refl}
use Rattle.tk_problem.proofs.weights.Format.word.Goals as goal

pub returns-in-UpperRow : goal.returns-in-UpperRow
returns-in-UpperRow c = rw c.in-UpperRow.is refl
