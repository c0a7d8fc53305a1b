-- Points in the plane.
use Rattle.std.specs.Prelude.{ℕ, ◌≤◌, ◌*◌, pos}
use Rattle.std.specs.Int.RustNames.{unsigned_abs}
use Rattle.tk_problem.specs.declared.limits.TheConstants.{COORDINATE_LIMIT}
use Rattle.tk_problem.specs.declared.point.TheConstants.{SCALE}
use Rattle.tk_problem.specs.declared.point.Point.{Point}

-- the number of coordinate units in 1
abbrev pub scale : ℕ
scale = unsigned_abs SCALE

-- the maximum magnitude of a coordinate, in units of 10^-9
abbrev pub greatest_coordinate : ℕ
greatest_coordinate = COORDINATE_LIMIT * scale

abbrev pub origin : Point
origin = record { x = pos 0; y = pos 0 }

-- each coordinate is within the limit of magnitude
pub record IsNearOrigin (p : Point) : Type 0 where
  pub x : unsigned_abs p.x ≤ greatest_coordinate
  pub y : unsigned_abs p.y ≤ greatest_coordinate
