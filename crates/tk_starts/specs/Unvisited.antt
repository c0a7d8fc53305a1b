-- The unvisited cities of a nearest-neighbour tour, as a row of exactly these cities.
use Rattle.std.specs.Prelude.{ℕ, ◌↔◌, List}
use Rattle.tk_near.specs.declared.plane.city_point.CityPoint.{CityPoint}
use Rattle.tk_distance.specs.Cities.{IsCity}
use Rattle.tk_near.specs.Near.{IsFirst, IsNew}
use Rattle.tk_near.specs.Unvisited.{Stands}

-- b is the nearest unvisited city to c
abbrev pub IsFirstUnvisited : (ℕ → ℕ → ℕ) → ℕ → List CityPoint → ℕ → ℕ → Type 0
IsFirstUnvisited dist n left c b = IsFirst dist c (λ a. IsCity n a × Stands left a) b

-- all cities have been visited
abbrev pub AreAllVisited : ℕ → List CityPoint → Type 0
AreAllVisited n left = (c : ℕ) → IsCity n c → Stands left c → ⊥

-- the first m cities of a list have been visited, and no others
abbrev pub AreVisited : ℕ → List CityPoint → ℕ → List ℕ → Type 0
AreVisited n left m cities = (c : ℕ) → IsCity n c → Stands left c ↔ IsNew cities m c
