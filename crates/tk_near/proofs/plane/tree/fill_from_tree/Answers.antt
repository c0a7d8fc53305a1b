use Rattle.std.proofs.Common.{arith, ◌≡◌, ◌+◌, ◌<◌, ◌∙◌, length}
use Rattle.tk_near.specs.CityPoint.{IsAt, placed_city, nowhere}
use Rattle.tk_near.proofs.InPlane.RowCandidates.{IsAt-before}
use Rattle.tk_near.proofs.FlatLists.{AreFilledAmong-write, AreFilledAmong-none, AreFilledAmong-same}
use Rattle.tk_near.proofs.plane.tree.fill_from_tree.Goals as goal

pub loop-here-init : goal.loop-here-init
loop-here-init g c = (
  AreFilledAmong-none (g.P.Metric.distance c.args.m.now) (g.P.Metric.size_of c.args.m.now) _
      (length c.args.many.now.kept.items) _ c.args.entries.now c.requires.room (λ a city s. omega (arith, s.2)),
  omega arith,
)

pub loop-here-preserved : goal.loop-here-preserved
loop-here-preserved g c =
    let p = c.loop-here.here-index in
    let row = c.args.row.now in
    let k = length c.args.many.now.kept.items in
    let l : p < length row = omega arith in
    let city = c.requires.row.each p nowhere l in
    let size : length c.search_city.new.many.kept.items ≡ k = c.search_city.ensures.size ∙ c.loop-here.invariant.1 in
    let near = rw c.loop-here.invariant.1 at c.search_city.ensures.near in (
      AreFilledAmong-write (g.P.Metric.distance c.args.m.now) (g.P.Metric.size_of c.args.m.now) _ k (placed_city row p)
          (IsAt row (λ q. q < p)) (IsAt row (λ q. q < p + 1)) c.loop-here.entries c.write_cities.new.entries
          c.search_city.new.many.kept.items c.loop-here.invariant.0 city.0 size near
          (IsAt-before row p) (rw c.kept.ensures at c.write_cities.ensures),
      size,
    )

pub returns : goal.returns
returns g c =
    AreFilledAmong-same _ _ _ _ _ _ _ c.loop-here.invariant.0 (λ a city d. let w = c.requires.row.whole a city in
    (w.0, w.1, omega (arith, w.1), w.2))
