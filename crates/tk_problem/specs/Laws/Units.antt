-- Laws of points in whole numbers of a unit.
use Rattle.std.specs.Prelude.{ℤ, ◌≤◌, pos, ◌*ℤ◌}
use Rattle.std.proofs.Common.{arith}
use Rattle.std.proofs.lemmas.Int.{unsigned_abs-mul}
use Rattle.std.specs.Int.RustNames.{unsigned_abs}
use Rattle.tk_problem.specs.declared.limits.TheConstants.{COORDINATE_LIMIT}
use Rattle.tk_problem.specs.declared.point.WholePoint.{WholePoint}
use Rattle.tk_problem.specs.declared.unit.Unit.{Unit}
use Rattle.tk_problem.specs.declared.unit.Unit.TheVariants.{One, Tenth, Hundredth, Thousandth}
use Rattle.tk_problem.specs.Places.{IsNearOrigin, greatest_coordinate}
use Rattle.tk_problem.specs.Units.{place_in, step_of}

coordinate-near : (unit : Unit) (x : ℤ) → unsigned_abs x ≤ COORDINATE_LIMIT
    → unsigned_abs (x *ℤ pos (step_of unit)) ≤ greatest_coordinate
coordinate-near One x near = omega (arith, unsigned_abs-mul x (pos 1000000000), near)
coordinate-near Tenth x near = omega (arith, unsigned_abs-mul x (pos 100000000), near)
coordinate-near Hundredth x near = omega (arith, unsigned_abs-mul x (pos 10000000), near)
coordinate-near Thousandth x near = omega (arith, unsigned_abs-mul x (pos 1000000), near)

-- a point in whole numbers of a unit is within the limits of coordinates
pub place_in-near : (unit : Unit) (p : WholePoint) → IsNearOrigin (place_in unit p)
place_in-near unit p = record { x = coordinate-near unit p.x p.x_near; y = coordinate-near unit p.y p.y_near }
