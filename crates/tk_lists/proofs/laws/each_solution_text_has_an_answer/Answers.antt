use Rattle.tk_lists.proofs.SolutionLaws.{some_decided}
use Rattle.tk_lists.proofs.laws.each_solution_text_has_an_answer.Goals as goal

pub returns : goal.returns
returns c = some_decided
