use Rattle.std.proofs.Common.{rules}
use Rattle.std.proofs.lemmas.List.Sorted.{answers_always}
use Rattle.tk_near.specs.declared.plane.city_point.CityPoint.{CityPoint}
use Rattle.tk_near.proofs.InPlane.EachCityOnce.{IsRow-by_number}
use Rattle.tk_near.proofs.InPlane.XOrder.{IsXOrder-from_sort}
use Rattle.tk_near.proofs.plane.sweep.order_by_x.Goals as goal

pub returns : goal.returns
returns g c =
    let m = c.args.m.now in
    let sorted = c.sort_unstable_by_key.ensures.sorted (λ (p : CityPoint). (p.place.x, p.city))
    (answers_always _ _ _ (λ f a r g h. search rules)) in
    let first = IsRow-by_number (g.P.Metric.size_of m) (g.P.Planar.place_of m) c.in_ok-row.row.items
    c.in_ok-row.ensures in
    IsXOrder-from_sort (g.P.Metric.size_of m) (g.P.Planar.place_of m) c.in_ok-row.row.items
    c.sort_unstable_by_key.new.self.items first c.sort_unstable_by_key.ensures.permutation sorted
