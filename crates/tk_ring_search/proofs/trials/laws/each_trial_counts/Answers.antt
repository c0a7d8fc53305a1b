use Rattle.tk_ring_search.proofs.TrialRuns.{counted_run}
use Rattle.tk_ring_search.proofs.trials.laws.each_trial_counts.Goals as goal

pub returns : goal.returns
returns c = λ given start begun search words rest t b run. counted_run given start b run
