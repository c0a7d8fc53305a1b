use Rattle.std.proofs.Common.{refl}
use Rattle.tk_tour.specs.Tour.{next_city, prev_city, place_of, occurrences}
use Rattle.tk_tests.proofs.tours.examples.neighbours.Goals as goal

pub returns : goal.returns
unfolding next_city prev_city place_of occurrences
returns c = record {
  next = refl;
  next_of_last = refl;
  prev = refl;
  prev_of_first = refl;
  place = refl;
  once = refl;
  twice = refl;
  never = refl;
}
