use Rattle.std.proofs.Common.{All, length, ap, arith, sym, subst}
use Rattle.tk_metric.specs.Cities.{IsCity}
use Rattle.tk_tour.specs.ArrayTours.{order_of}
use Rattle.tk_tour.proofs.CitiesOfTours.{cities_of_tour}
use Rattle.tk_tests.proofs.descents.length_of.Goals as goal

pub length-requires : goal.length-requires
length-requires g c =
    let size = g.M.Metric.size_of c.args.metric.now in
    let order = order_of c.args.tour.now in
    record {
      cities = subst (All (IsCity size)) (sym c.order.ensures)
          (cities_of_tour (length order) size order c.requires c.args.tour.now.tour.2);
      count = omega (arith, ap length c.order.ensures, c.args.tour.now.tour.1);
    }
