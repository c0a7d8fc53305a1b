use Rattle.tk_tour.proofs.Tours.{prev_city-city}
use Rattle.tk_descent.proofs.on_tour.prev.Goals as goal

pub returns-clause-city : goal.returns-clause-city
returns-clause-city g c = rw c.prev.ensures (prev_city-city _ _ (g.met.S.TourStore.is_tour c.args.tour.now))
