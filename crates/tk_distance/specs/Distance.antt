-- Distances of points in the plane, in exact arithmetic on coordinates in units of 10^-9.
-- Source: G. Reinelt, "TSPLIB 95", section 2, "The distance functions".
use Rattle.std.specs.Prelude.{ℕ, ℤ, ◌+◌, ◌-◌, ◌*◌, ◌<◌, ◌≤◌, ◌↔◌, ◌-ℤ◌, max}
use Rattle.std.specs.Int.RustNames.{unsigned_abs}
use Rattle.tk_problem.specs.Places.{greatest_coordinate, scale}
use Rattle.tk_problem.specs.declared.point.Point.{Point}
use Rattle.tk_problem.specs.declared.weights.PlaneKind.{PlaneKind}
use Rattle.tk_problem.specs.declared.weights.PlaneKind.TheVariants.{Euc2d, Ceil2d, Man2d, Max2d, Att}

-- d is the largest number from 1 on that satisfies P, or 0 if there is none
pub record IsGreatest (P : ℕ → Type 0) (d : ℕ) : Type 0 where
  pub holds : 1 ≤ d → P d
  pub greatest : (e : ℕ) → 1 ≤ e → P e → e ≤ d

-- d is the smallest number that satisfies P
pub record IsLeast (P : ℕ → Type 0) (d : ℕ) : Type 0 where
  pub holds : P d
  pub least : (e : ℕ) → P e → d ≤ e

-- d - 1/2 is at most a length
abbrev pub Reaches : ℕ → ℕ → Type 0
Reaches length d = (2 * d - 1) * scale ≤ 2 * length

-- d - 1/2 is at most the root of a square
abbrev pub RootReaches : ℕ → ℕ → Type 0
RootReaches square d = (2 * d - 1) * (2 * d - 1) * (scale * scale) ≤ 4 * square

-- the roots of two squares, rounded to the nearest, are equal
abbrev pub RoundAlike : ℕ → ℕ → Type 0
RoundAlike square other = (d : ℕ) → 1 ≤ d → (RootReaches square d ↔ RootReaches other d)

-- squares in units of `step` are less than `parting` exactly if their roots, rounded to the nearest, are below a bound
abbrev pub PartsRoots : ℕ → ℕ → ℕ → Type 0
PartsRoots step bound parting = (square d : ℕ) → square ≤ 8000000000000000000 →
    IsGreatest (RootReaches (square * (step * step))) d → ((square < parting) ↔ (d < bound))

-- d is at least the root of square / parts
abbrev pub Covers : ℕ → ℕ → ℕ → Type 0
Covers parts square d = square ≤ parts * (d * d * (scale * scale))

-- the square of the distance in the plane
abbrev pub square_sum : ℕ → ℕ → ℕ
square_sum dx dy = dx * dx + dy * dy

-- d is the distance of points whose coordinates differ by dx and dy: the root, the sum or the maximum, rounded to the
-- nearest; the root, rounded up; or the root of a tenth of the square, rounded up
abbrev pub IsDistance : PlaneKind → ℕ → ℕ → ℕ → Type 0
IsDistance Euc2d dx dy d = IsGreatest (RootReaches (square_sum dx dy)) d
IsDistance Ceil2d dx dy d = IsLeast (Covers 1 (square_sum dx dy)) d
IsDistance Man2d dx dy d = IsGreatest (Reaches (dx + dy)) d
IsDistance Max2d dx dy d = IsGreatest (Reaches (max dx dy)) d
IsDistance Att dx dy d = IsLeast (Covers 10 (square_sum dx dy)) d

-- the absolute difference of two coordinates
abbrev pub gap : ℤ → ℤ → ℕ
gap x y = unsigned_abs (x -ℤ y)

-- d is the distance of two points
abbrev pub IsDistanceOf : PlaneKind → Point → Point → ℕ → Type 0
IsDistanceOf kind p q d = IsDistance kind (gap p.x q.x) (gap p.y q.y) d

-- the maximum difference of two coordinates
abbrev pub reach : ℕ
reach = 2 * greatest_coordinate
