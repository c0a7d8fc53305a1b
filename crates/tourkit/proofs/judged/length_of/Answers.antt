use Rattle.std.proofs.Common.{arith}
use Rattle.tk_distance.specs.Tables.{table_size-limit}
use Rattle.tk_tour.proofs.CitiesOfTours.{cities_of_tour}
use Rattle.tourkit.proofs.judged.length_of.Goals as goal

pub length-requires : goal.length-requires
length-requires c = record {
  cities = cities_of_tour c.args.problem.now.n _ _ c.of.ensures.size c.requires.tour;
  count = omega (arith, c.requires.tour.0, c.of.ensures.size, table_size-limit c.of.result);
}
