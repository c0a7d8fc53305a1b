use Rattle.tk_problem_text.proofs.PlacedLaws.{each_has_an_answer}
use Rattle.tk_problem_text.proofs.laws.each_placed_text_has_an_answer.Goals as goal

pub returns : goal.returns
returns c = each_has_an_answer
