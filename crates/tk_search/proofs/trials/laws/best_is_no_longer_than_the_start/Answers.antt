use Rattle.tk_search.proofs.SearchTrials.Runs.{no_longer_run}
use Rattle.tk_search.proofs.trials.laws.best_is_no_longer_than_the_start.Goals as goal

pub returns : goal.returns
returns c = λ begun after words rest t run. no_longer_run run
