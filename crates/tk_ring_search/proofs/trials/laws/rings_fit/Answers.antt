use Rattle.tk_ring_search.proofs.TrialRuns.{rings_run}
use Rattle.tk_ring_search.proofs.trials.laws.rings_fit.Goals as goal

pub returns : goal.returns
returns c = λ given start begun search words rest t b run. rings_run given start b run
