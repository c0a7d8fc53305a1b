use Rattle.tk_search.proofs.SearchTrials.Cities.{tour_after}
use Rattle.tk_search.proofs.trials.laws.best_is_a_tour.Goals as goal

pub returns : goal.returns
returns c = λ begun after words rest t run. tour_after _ run
