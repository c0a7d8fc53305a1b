use Rattle.tk_lists.proofs.SolutionLaws.{decided_stays}
use Rattle.tk_lists.proofs.laws.decided_solutions_stay.Goals as goal

pub returns : goal.returns
returns c = decided_stays
