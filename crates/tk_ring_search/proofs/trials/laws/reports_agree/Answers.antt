use Rattle.tk_ring_search.proofs.TrialRuns.{agree}
use Rattle.tk_ring_search.proofs.trials.laws.reports_agree.Goals as goal

pub returns : goal.returns
returns c = agree
