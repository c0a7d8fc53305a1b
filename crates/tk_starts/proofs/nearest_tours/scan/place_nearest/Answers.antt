use Rattle.std.proofs.Common.{arith, ◌<◌}
use Rattle.tk_starts.proofs.NearestCities.NearestTours.{IsNearestTo-more}
use Rattle.tk_starts.proofs.nearest_tours.scan.place_nearest.Goals as goal

pub loop-j-preserved : goal.loop-j-preserved
loop-j-preserved g c =
    let m = c.args.metric.now in
    let limit = g.met.M.Metric.size_limit m in
    let small : g.M.Metric.size_of m < 4294967296 = omega (arith, limit) in
    let at = rw c.as_slice.ensures.value at c.first_from-at.ensures in
    rw c.swap.ensures.items
    (IsNearestTo-more (g.M.Metric.distance m) (g.M.Metric.size_of m) _ c.loop-j.j c.first_from-at.result
    c.loop-j.cities.items small c.loop-j.auto.j c.loop-j.invariant at.from at.within at.first)
