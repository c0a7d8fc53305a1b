use Rattle.std.proofs.Common.{refl}
use Rattle.tk_outcomes.proofs.info.ProblemInfo.type_word.Goals as goal

pub returns-in-Some : goal.returns-in-Some
returns-in-Some c = rw c.in-Some.is refl
