use Rattle.tk_problem_text.proofs.PlacedLaws.{decided_stay}
use Rattle.tk_problem_text.proofs.laws.decided_places_stay.Goals as goal

pub returns : goal.returns
returns c = decided_stay
