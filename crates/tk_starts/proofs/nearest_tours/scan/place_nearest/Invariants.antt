use Rattle.std.specs.Prelude.{slice_index}
use Rattle.tk_starts.specs.NearestTour.{IsNearestTo}
use Rattle.tk_starts.proofs.nearest_tours.scan.place_nearest.Given as goal

abbrev pub invariant-loop-j : goal.invariant-loop-j
invariant-loop-j g l =
    IsNearestTo (g.M.Metric.distance l.metric) (g.M.Metric.size_of l.metric) (slice_index l.initial.cities.items 0) l.j
    l.cities.items
