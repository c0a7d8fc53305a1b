-- The cities in x order, and a sweep from one of them in both directions.
use Rattle.std.specs.Prelude.{◌≢◌, ℕ, ◌-ℤ◌, ◌≤ℤ◌, ◌-◌, ◌*◌, ◌<◌, ◌≤◌, List, length, slice_index_or}
use Rattle.std.specs.Int.RustNames.{unsigned_abs}
use Rattle.tk_distance.specs.Distance.{reach}
use Rattle.tk_problem.specs.declared.point.Point.{Point}
use Rattle.tk_near.specs.declared.candidates.Candidate.{Candidate}
use Rattle.tk_near.specs.declared.plane.city_point.CityPoint.{CityPoint}
use Rattle.tk_near.specs.Keeping.{KeepsFirst, empty_slot, rank}
use Rattle.tk_near.specs.CityPoint.{IsAt, IsRow, placed_city, nowhere}

abbrev pub point_at : List CityPoint → ℕ → Point
point_at row q = (slice_index_or row q nowhere).place

-- each city once, with its coordinates, in x order
pub record IsXOrder (n : ℕ) (place_of : ℕ → Point) (row : List CityPoint) : Type 0 where
  pub cities : IsRow n place_of row
  pub rising : (i j : ℕ) → i ≤ j → j < length row → (point_at row i).x ≤ℤ (point_at row j).x

-- the laws of the lower bound that a sweep in x order needs
pub record IsFloor (dist : ℕ → ℕ → ℕ) (place_of : ℕ → Point) (floor : ℕ → ℕ) : Type 0 where
  pub wide : (a b : ℕ) → unsigned_abs ((place_of a).x -ℤ (place_of b).x) ≤ reach
  pub rises : (s t : ℕ) → s ≤ t → t ≤ reach → floor s ≤ floor t
  pub bounds : (a b : ℕ) → floor (unsigned_abs ((place_of a).x -ℤ (place_of b).x)) ≤ dist a b

-- the nearest k of the cities at the positions from low to high - 1, except the one at p
pub record IsSwept (dist : ℕ → ℕ → ℕ) (row : List CityPoint) (p low high k : ℕ) (kept : List Candidate) : Type 0 where
  pub low_end : low ≤ p
  pub high_end : p < high
  pub within : high ≤ length row
  pub keeps : KeepsFirst dist (placed_city row p) k (high - low - 1)
      (IsAt row (λ q. (low ≤ q) × (q < high) × (q ≢ p))) kept

-- each candidate at this distance or beyond comes after the last one kept
abbrev pub IsBelow : ℕ → List Candidate → Type 0
IsBelow bound kept = rank (slice_index_or kept (length kept - 1) empty_slot) < bound * 4294967296
