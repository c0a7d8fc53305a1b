use Rattle.std.proofs.Common.{arith, ◌≡◌, ◌+◌, ◌<◌, ◌∙◌, length}
use Rattle.tk_near.specs.CityPoint.{IsAt, nowhere, placed_city}
use Rattle.tk_near.proofs.InPlane.RowCandidates.{IsAt-before}
use Rattle.tk_near.proofs.FlatLists.{AreFilledAmong-write, AreFilledAmong-none, AreFilledAmong-same}
use Rattle.tk_near.proofs.plane.sweep.fill_lists.Goals as goal

pub loop-p-init : goal.loop-p-init
loop-p-init g c = (
  AreFilledAmong-none (g.P.Metric.distance c.args.m.now) (g.P.Metric.size_of c.args.m.now) _ (length c.args.kept.now)
      _ c.args.entries.now c.requires.room (λ a city s. omega (arith, s.2)),
  omega arith,
)

pub loop-p-preserved : goal.loop-p-preserved
loop-p-preserved g c =
    let p = c.loop-p.p in
    let row = c.args.row.now in
    let size : length c.sweep_city.new.kept ≡ length c.args.kept.now = c.sweep_city.ensures.size
    ∙ c.loop-p.invariant.1 in (
      AreFilledAmong-write (g.P.Metric.distance c.args.m.now) (g.P.Metric.size_of c.args.m.now) _
          (length c.args.kept.now) (placed_city row p) (IsAt row (λ q. q < p)) (IsAt row (λ q. q < p + 1))
          c.loop-p.entries c.write_cities.new.entries c.sweep_city.new.kept c.loop-p.invariant.0
          (c.requires.order.cities.each p nowhere c.loop-p-test.true).0 size
          (rw c.loop-p.invariant.1 at c.sweep_city.ensures.near)
          (IsAt-before row p) c.write_cities.ensures,
      size,
    )

pub returns : goal.returns
returns g c =
    AreFilledAmong-same _ _ _ _ _ _ _ c.loop-p.invariant.0 (λ a city d. let w = c.requires.order.cities.whole a city in
    (w.0, w.1, omega (arith, w.1), w.2))
