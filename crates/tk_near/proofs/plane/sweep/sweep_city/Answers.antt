use Rattle.std.proofs.Common.{arith, ◌≡◌, ℕ, length, replicate}
use Rattle.tk_near.specs.Keeping.{empty_slot}
use Rattle.tk_near.proofs.InPlane.XSweep.{IsSwept-none, IsNear-from_swept}
use Rattle.tk_near.proofs.plane.sweep.sweep_city.Goals as goal

pub loop-low-init : goal.loop-low-init
loop-low-init g c =
    let m = c.args.m.now in
    let k : ℕ = length c.args.kept.now in
    let clear : c.fill.new.self ≡ replicate k empty_slot = c.fill.ensures.after (λ y e. e) in
    rw clear (IsSwept-none (g.met.P.Metric.distance_limit m) c.requires.order (g.met.P.Metric.size_limit m) c.args.p k
    c.requires.place)

pub returns-clause-near : goal.returns-clause-near
returns-clause-near g c =
    let m = c.args.m.now in
    let l : c.loop-low.low ≡ 0 = omega arith in
    let h : c.loop-low.high ≡ length c.args.row.now = omega (arith, c.loop-low.invariant.within) in
    IsNear-from_swept (g.met.P.Metric.distance_limit m) c.requires.order (g.met.P.Metric.size_limit m) c.requires.high
    (rw (l, h) at c.loop-low.invariant)
