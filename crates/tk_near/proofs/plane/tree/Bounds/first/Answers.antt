use Rattle.std.proofs.Common.{◌≡◌, pos, arith}
use Rattle.std.proofs.lemmas.Int.{ints}
use Rattle.tk_near.proofs.InPlane.TreeCandidates.{AreFloors, floor_below}
use Rattle.tk_near.proofs.plane.tree.Bounds.first.Goals as goal

pub returns : goal.returns
returns g c = λ p placed within.
    let m = c.args.m.now in
    let laws : AreFloors (g.P.Metric.distance m) (g.P.Planar.place_of m) (g.P.Planar.floor m) =
    record {
      wide = g.met.P.Planar.wide m;
      tall = g.met.P.BothAxes.tall m;
      rises = g.met.P.Planar.floor_rises m;
      bounds = g.met.P.Planar.floor_bounds m;
      bounds_y = g.met.P.BothAxes.floor_bounds_y m;
    } in
    let below = floor_below (g.P.Metric.distance m) (g.P.Metric.size_of m) (g.P.Planar.place_of m) (g.P.Planar.floor m)
    laws c.args.here.now p c.gap-gap.result c.requires placed (c.gap-gap.ensures.beyond p within) in
    let least = within.least in
    let floor : c.floor_x-floor.result ≡ pos (g.P.Planar.floor m c.gap-gap.result) = c.floor_x-floor.ensures in
    omega (arith, ints, below, least, floor)
