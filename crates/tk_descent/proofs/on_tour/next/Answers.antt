use Rattle.tk_tour.proofs.Tours.{next_city-city}
use Rattle.tk_descent.proofs.on_tour.next.Goals as goal

pub returns-clause-city : goal.returns-clause-city
returns-clause-city g c = rw c.next.ensures (next_city-city _ _ (g.met.S.TourStore.is_tour c.args.tour.now))
