use Rattle.tk_lists.proofs.TourLaws.{decided_stay}
use Rattle.tk_lists.proofs.laws.decided_tours_stay.Goals as goal

pub returns : goal.returns
returns c = decided_stay
