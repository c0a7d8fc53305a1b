use Rattle.tk_search.proofs.SearchTrials.BoundedRuns.{one_trial}
use Rattle.tk_search.proofs.trials.laws.few_cities_make_one_trial.Goals as goal

pub returns : goal.returns
returns c = λ begun after words rest t run. one_trial run
