use Rattle.tk_ring_search.proofs.TrialRuns.{optimal_run}
use Rattle.tk_ring_search.proofs.trials.laws.swept_rings_are_optimal.Goals as goal

pub returns : goal.returns
returns c = λ given start begun search words rest t b run swept. optimal_run given start b run swept
