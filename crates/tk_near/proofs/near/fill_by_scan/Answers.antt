use Rattle.std.proofs.Common.{arith, ◌≡◌, ◌+◌, ◌<◌, ◌∙◌, length, refl}
use Rattle.tk_distance.specs.Cities.{IsCity}
use Rattle.tk_near.proofs.FlatLists.{AreFilledAmong-write, AreFilledAmong-none, AreFilledAmong-same}
use Rattle.tk_near.proofs.near.fill_by_scan.Goals as goal

pub loop-c-init : goal.loop-c-init
loop-c-init g c = (
  AreFilledAmong-none (g.M.Metric.distance c.args.m.now) (g.M.Metric.size_of c.args.m.now) c.args.among
      (length c.args.kept.now) _ c.args.entries.now c.requires.room (λ a city s. omega (arith, s, city.0)),
  refl,
)

pub loop-c-preserved : goal.loop-c-preserved
loop-c-preserved g c =
    let size : length c.scan_city.new.kept ≡ length c.args.kept.now = c.scan_city.ensures.size
    ∙ c.loop-c.invariant.1 in
    let city : IsCity (g.M.Metric.size_of c.args.m.now) c.loop-c.c = (c.loop-c.auto.c, omega arith) in (
      AreFilledAmong-write (g.M.Metric.distance c.args.m.now) (g.M.Metric.size_of c.args.m.now) c.args.among
          (length c.args.kept.now) c.loop-c.c (λ a. a < c.loop-c.c) (λ a. a < c.loop-c.c + 1) c.loop-c.entries
          c.write_cities.new.entries c.scan_city.new.kept c.loop-c.invariant.0 city size
          (rw c.loop-c.invariant.1 at c.scan_city.ensures.near) (omega arith) c.write_cities.ensures,
      size,
    )

pub returns : goal.returns
returns g c = AreFilledAmong-same _ _ _ _ _ _ _ c.loop-c.invariant.0 (λ a city d. omega (arith, city.1))
