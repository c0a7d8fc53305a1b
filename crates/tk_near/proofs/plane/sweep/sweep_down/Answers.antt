use Rattle.tk_near.proofs.InPlane.XSweep.{swept_climbing, swept_down_near, swept_down_far}
use Rattle.tk_near.proofs.plane.sweep.sweep_down.Goals as goal

pub returns-then-meet-clause-swept : goal.returns-then-meet-clause-swept
returns-then-meet-clause-swept g c =
    let m = c.args.m.now in
    let kept = rw c.if-meet.true at c.meet.ensures in
    rw kept (swept_down_near (g.met.P.Metric.distance_limit m) c.requires.order (g.met.P.Metric.size_limit m)
    c.requires.swept c.requires.left)

pub returns-else-meet-clause-swept : goal.returns-else-meet-clause-swept
returns-else-meet-clause-swept g c =
    let m = c.args.m.now in
    let far = rw c.if-meet.false at c.meet.ensures in
    rw far.0 (swept_down_far (g.met.P.Metric.distance_limit m) c.requires.order (g.met.P.Metric.size_limit m)
    c.requires.swept (g.P.Planar.floor m) record {
      wide = g.met.P.Planar.wide m;
      rises = g.met.P.Planar.floor_rises m;
      bounds = g.met.P.Planar.floor_bounds m;
    } c.requires.left c.requires.room far.1)

pub meet-requires-clause-climbing : goal.meet-requires-clause-climbing
meet-requires-clause-climbing g c =
    let m = c.args.m.now in
    swept_climbing (g.met.P.Metric.distance_limit m) c.requires.order (g.met.P.Metric.size_limit m) c.requires.swept
