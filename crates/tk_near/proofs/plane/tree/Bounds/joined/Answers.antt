use Rattle.std.proofs.Common.{arith, ◌≤◌}
use Rattle.std.specs.Prelude.{◌≤ℤ◌}
use Rattle.std.proofs.lemmas.Int.{ints}
use Rattle.tk_near.specs.declared.plane.city_point.CityPoint.{CityPoint}
use Rattle.tk_near.specs.declared.plane.tree.Bounds.{Bounds}
use Rattle.tk_near.specs.Tree.{IsInBox}
use Rattle.tk_near.proofs.plane.tree.Bounds.joined.Goals as goal

-- what stands in a box stands in one that reaches no less far to any side
in_wider : (f g : Bounds) (p : CityPoint) → g.left ≤ℤ f.left → f.right ≤ℤ g.right → g.bottom ≤ℤ f.bottom → f.top ≤ℤ
    g.top →
    g.least ≤ f.least → f.greatest ≤ g.greatest → IsInBox f p → IsInBox g p
in_wider f g p left right bottom top least greatest within = search (arith, ints)

pub returns-clause-first : goal.returns-clause-first
returns-clause-first c = λ p. in_wider _ _ p (omega (arith, ints)) (omega (arith, ints)) (omega (arith, ints))
    (omega (arith, ints)) (omega arith) (omega arith)

pub returns-clause-second : goal.returns-clause-second
returns-clause-second c = λ p. in_wider _ _ p (omega (arith, ints)) (omega (arith, ints)) (omega (arith, ints))
    (omega (arith, ints)) (omega arith) (omega arith)
