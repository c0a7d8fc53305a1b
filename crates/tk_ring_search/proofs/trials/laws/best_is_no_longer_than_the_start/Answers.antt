use Rattle.tk_ring_search.proofs.BoundedRuns.{no_longer_run}
use Rattle.tk_ring_search.proofs.trials.laws.best_is_no_longer_than_the_start.Goals as goal

pub returns : goal.returns
returns c = λ given start begun search words rest t b run. no_longer_run given start b run
