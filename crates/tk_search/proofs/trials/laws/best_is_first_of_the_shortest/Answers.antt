use Rattle.tk_search.proofs.SearchTrials.Runs.{first_run}
use Rattle.tk_search.proofs.trials.laws.best_is_first_of_the_shortest.Goals as goal

pub returns : goal.returns
returns c = λ begun search words rest t run. first_run run
