use Rattle.std.proofs.Common.{rules, length, ap, arith}
use Rattle.tk_tour.proofs.CitiesOfTours.{cities_of_tour}
use Rattle.tk_search.proofs.trials.state.State.new.Goals as goal

pub length-shortest-requires-clause-cities : goal.length-shortest-requires-clause-cities
length-shortest-requires-clause-cities g c =
    let cities = c.cities.result.now in
    cities_of_tour (length cities) _ cities
    (omega (arith, c.requires.fits.0, ap length c.cities.ensures.cities, ap length c.in_ok-best.ensures.cities))
    c.cities.ensures.tour.2

pub returns-clause-holds : goal.returns-clause-holds
returns-clause-holds g c =
    let steps = c.in_ok-new-3.ensures (g.M.Metric.distance c.args.metric.now) in
    search rules
