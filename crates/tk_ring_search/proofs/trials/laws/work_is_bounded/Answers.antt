use Rattle.tk_ring_search.proofs.BoundedRuns.{bounded_run}
use Rattle.tk_ring_search.proofs.trials.laws.work_is_bounded.Goals as goal

pub returns : goal.returns
returns c = λ given start begun search words rest t b run. bounded_run given start b run
