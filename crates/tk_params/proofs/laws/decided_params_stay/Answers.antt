use Rattle.tk_params.proofs.TextLaws.{decided_stays}
use Rattle.tk_params.proofs.laws.decided_params_stay.Goals as goal

pub returns : goal.returns
returns c = decided_stays
