use Rattle.std.proofs.Common.{refl}
use Rattle.tk_outcomes.proofs.tour.TourOutcome.verdict.Goals as goal

pub returns-in-WrongCount : goal.returns-in-WrongCount
returns-in-WrongCount c = rw c.in-WrongCount.is refl
