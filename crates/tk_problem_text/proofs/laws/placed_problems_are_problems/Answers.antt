use Rattle.tk_problem_text.proofs.PlacedLaws.{read_as_problem}
use Rattle.tk_problem_text.proofs.laws.placed_problems_are_problems.Goals as goal

pub returns : goal.returns
returns c = read_as_problem
