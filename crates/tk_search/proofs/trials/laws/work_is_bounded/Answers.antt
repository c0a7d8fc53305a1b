use Rattle.tk_search.proofs.SearchTrials.BoundedRuns.{bounded_run}
use Rattle.tk_search.proofs.trials.laws.work_is_bounded.Goals as goal

pub returns : goal.returns
returns c = λ begun after words rest t run. bounded_run run
