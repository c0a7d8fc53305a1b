-- Unvisited cities: a row of them, from which a city is removed.
use Rattle.std.specs.Prelude.{◌≡◌, ◌≢◌, ℕ, ◌<◌, List, ◌∷◌, length, All, IsPermutation, MatchOption, Option}
use Rattle.tk_problem.specs.declared.point.Point.{Point}
use Rattle.tk_near.specs.Near.{IsFirst}
use Rattle.tk_near.specs.declared.plane.unvisited.CityHint.{CityHint}
use Rattle.tk_near.specs.declared.plane.city_point.CityPoint.{CityPoint}
use Rattle.tk_near.specs.CityPoint.{IsPlaced, placed_city}

-- the city is removed from the row, whose order may change
pub record IsTakenOut (p : CityPoint) (old new : List CityPoint) : Type 0 where
  pub taken : CityPoint
  pub is : taken.city ≡ p.city
  pub others : IsPermutation old (taken ∷ new)

-- the city does not occur in the row
abbrev pub IsNotIn : CityPoint → List CityPoint → Type 0
IsNotIn p row = All (λ q. q ≢ p) row

-- a city that occurs in the row, other than c
abbrev pub IsOtherIn : List CityPoint → ℕ → ℕ → Type 0
IsOtherIn row c b = (q : ℕ) × (q < length row) × (placed_city row q ≡ b) × (b ≢ c)

-- the nearest city of the row other than c, as seen from c; None if the row has no other city
abbrev pub IsFirstUnvisited : (ℕ → ℕ → ℕ) → ℕ → List CityPoint → Option CityHint → Type 0
IsFirstUnvisited dist c row found =
    MatchOption found ((b : ℕ) → IsOtherIn row c b → ⊥) (λ found. IsFirst dist c (IsOtherIn row c) found.city)

-- the city occurs in the row
abbrev pub Stands : List CityPoint → ℕ → Type 0
Stands row b = (q : ℕ) × (q < length row) × (placed_city row q ≡ b)

-- no city occurs in the row twice, and each has its coordinates
pub record ArePlacedApart (n : ℕ) (place_of : ℕ → Point) (row : List CityPoint) : Type 0 where
  pub each : All (IsPlaced n place_of) row
  pub apart : (i j : ℕ) → i < j → j < length row → placed_city row i ≢ placed_city row j
