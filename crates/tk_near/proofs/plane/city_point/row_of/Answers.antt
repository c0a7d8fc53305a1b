use Rattle.std.proofs.Common.{arith, ◌≡◌, ◌-◌}
use Rattle.tk_near.proofs.plane.city_point.row_of.Goals as goal

pub returns : goal.returns
returns g c =
    let end : c.loop-c.c - 1 ≡ g.P.Metric.size_of c.args.m.now = omega arith in
    let h = rw end at c.loop-c.invariant in
    record { count = h.0; each = h.1 }
