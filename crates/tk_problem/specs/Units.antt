-- Points in whole numbers of a unit.
use Rattle.std.specs.Prelude.{ℕ, pos, ◌*ℤ◌}
use Rattle.tk_problem.specs.declared.point.Point.{Point}
use Rattle.tk_problem.specs.declared.point.WholePoint.{WholePoint}
use Rattle.tk_problem.specs.declared.unit.Unit.{Unit}
use Rattle.tk_problem.specs.declared.unit.Unit.TheVariants.{One, Tenth, Hundredth, Thousandth}

-- the unit, in units of 10^-9
abbrev pub step_of : Unit → ℕ
step_of One = 1000000000
step_of Tenth = 100000000
step_of Hundredth = 10000000
step_of Thousandth = 1000000

-- a point in whole numbers of a unit, converted to units of 10^-9
abbrev pub place_in : Unit → WholePoint → Point
place_in unit p = record { x = p.x *ℤ pos (step_of unit); y = p.y *ℤ pos (step_of unit) }
