use Rattle.tk_tour.proofs.Tours.{next_city-city, prev_city-city}
use Rattle.tk_descent.proofs.on_tour.neighbours.Goals as goal

pub returns-clause-cities : goal.returns-clause-cities
returns-clause-cities g c =
    let tour = g.met.S.TourStore.is_tour c.args.tour.now in (
      rw c.neighbours.ensures.after (next_city-city _ _ tour),
      rw c.neighbours.ensures.before (prev_city-city _ _ tour),
    )
