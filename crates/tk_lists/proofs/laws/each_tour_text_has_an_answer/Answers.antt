use Rattle.tk_lists.proofs.TourLaws.{each_has_an_answer}
use Rattle.tk_lists.proofs.laws.each_tour_text_has_an_answer.Goals as goal

pub returns : goal.returns
returns c = each_has_an_answer
