use Rattle.tk_search.proofs.SearchTrials.BoundedRuns.{counted_run}
use Rattle.tk_search.proofs.trials.laws.each_trial_counts.Goals as goal

pub returns : goal.returns
returns c = λ begun after words rest t run. counted_run run
