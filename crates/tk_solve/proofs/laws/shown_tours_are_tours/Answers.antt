use Rattle.tk_solve.proofs.ShownTours.{runs_shown}
use Rattle.tk_solve.proofs.laws.shown_tours_are_tours.Goals as goal

pub returns : goal.returns
returns c = λ task near runs are. runs_shown task near are
