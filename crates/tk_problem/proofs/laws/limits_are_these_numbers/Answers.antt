use Rattle.std.proofs.Common.{refl}
use Rattle.tk_problem.proofs.laws.limits_are_these_numbers.Goals as goal

pub returns-clause-text : goal.returns-clause-text
returns-clause-text c = refl
