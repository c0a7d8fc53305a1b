use Rattle.tk_params.proofs.TextLaws.{some_decided}
use Rattle.tk_params.proofs.laws.each_params_text_has_an_answer.Goals as goal

pub returns : goal.returns
returns c = some_decided
