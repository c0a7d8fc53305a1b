use Rattle.tk_problem_text.proofs.ProblemLaws.{decided_stay}
use Rattle.tk_problem_text.proofs.laws.decided_problems_stay.Goals as goal

pub returns : goal.returns
returns c = decided_stay
