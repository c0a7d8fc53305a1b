use Rattle.std.proofs.Common.{◌≡◌, pos, ◌+ℤ◌, ◌≤ℤ◌}
use Rattle.tk_distance.specs.Cities.{IsCity}
use Rattle.tk_tour.specs.Tour.{tour_length}
use Rattle.tk_tour.proofs.Lengths.{way_back}
use Rattle.tk_tour.proofs.measure.length.Given as goal

abbrev pub invariant-loop-city : goal.invariant-loop-city
invariant-loop-city g l = record {
  from_in : IsCity (g.M.Metric.size_of l.metric) l.from;
  low : pos 0 ≤ℤ l.total;
  left : l.total +ℤ pos (way_back (g.M.Metric.distance l.metric) l.from l.first l.city-index l.others) ≡ pos
      (tour_length (g.M.Metric.distance l.metric) l.cities);
}
