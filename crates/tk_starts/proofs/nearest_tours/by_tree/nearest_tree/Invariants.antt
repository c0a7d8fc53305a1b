use Rattle.std.proofs.Common.{◌-◌, length}
use Rattle.tk_near.specs.Unvisited.{ArePlacedApart}
use Rattle.tk_starts.proofs.NearestCities.NearestPaths.{IsUnderWay}
use Rattle.tk_starts.proofs.nearest_tours.by_tree.nearest_tree.Given as goal

abbrev pub invariant-loop-found : goal.invariant-loop-found
invariant-loop-found g l = record {
  apart : ArePlacedApart (g.P.Metric.size_of l.metric) (g.P.Planar.place_of l.metric) l.left;
  way : IsUnderWay (g.P.Metric.distance l.metric) (g.P.Metric.size_of l.metric) l.start l.at.city l.left l.cities.items;
}

abbrev pub decreases-loop-found : goal.decreases-loop-found
decreases-loop-found g l = g.P.Metric.size_of l.metric - length l.cities.items
