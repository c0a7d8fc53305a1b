-- Cities with their coordinates, and rows of them.
use Rattle.std.specs.Prelude.{◌≡◌, ◌≢◌, ℕ, ◌+◌, ◌-ℤ◌, ◌<◌, List, length, slice_index_or, All}
use Rattle.std.specs.Int.RustNames.{unsigned_abs}
use Rattle.tk_problem.specs.declared.point.Point.{Point}
use Rattle.tk_problem.specs.Places.{origin}
use Rattle.tk_near.specs.declared.plane.city_point.CityPoint.{CityPoint}
use Rattle.tk_distance.specs.Cities.{IsCity}

abbrev pub as_placed : (ℕ → Point) → ℕ → CityPoint
as_placed place_of b = record { place = place_of b; city = b }

abbrev pub nowhere : CityPoint
nowhere = record { place = origin; city = 0 }

abbrev pub placed_city : List CityPoint → ℕ → ℕ
placed_city row q = (slice_index_or row q nowhere).city

-- the differences of two cities in x and in y
abbrev pub x_gap : CityPoint → CityPoint → ℕ
x_gap here there = unsigned_abs (here.place.x -ℤ there.place.x)

abbrev pub y_gap : CityPoint → CityPoint → ℕ
y_gap here there = unsigned_abs (here.place.y -ℤ there.place.y)

-- a city with its coordinates
abbrev pub IsPlaced : ℕ → (ℕ → Point) → CityPoint → Type 0
IsPlaced n place_of p = IsCity n p.city × (p.place ≡ place_of p.city)

-- the cities 1 to n with their coordinates, in the order of their numbers
pub record IsNumberedRow (n : ℕ) (place_of : ℕ → Point) (row : List CityPoint) : Type 0 where
  pub count : length row ≡ n
  pub each : (j : ℕ) (d : CityPoint) → j < n → slice_index_or row j d ≡ as_placed place_of (j + 1)

-- each city once, with its coordinates
pub record IsRow (n : ℕ) (place_of : ℕ → Point) (row : List CityPoint) : Type 0 where
  pub count : length row ≡ n
  pub each : All (IsPlaced n place_of) row
  pub apart : (i j : ℕ) → i < j → j < length row → placed_city row i ≢ placed_city row j
  pub whole : (b : ℕ) → IsCity n b → (q : ℕ) × (q < length row) × (placed_city row q ≡ b)

-- b occurs at a position that satisfies W
abbrev pub IsAt : List CityPoint → (ℕ → Type 0) → ℕ → Type 0
IsAt row W b = (q : ℕ) × (q < length row) × W q × (placed_city row q ≡ b)
