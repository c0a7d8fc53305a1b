-- The nearest-neighbour tour of a distance table over the cities 1 to n.
--     IsNearestTour dist n start cities      from the start on, each next city is the nearest unvisited one
use Rattle.std.specs.Prelude.{◌≡◌, ℕ, ◌+◌, ◌<◌, List, length, slice_index}
use Rattle.tk_distance.specs.Cities.{IsCity}
use Rattle.tk_near.specs.Near.{IsFirst, IsNew}

-- the city after position j, counted from 0, is the nearest to that at position j of those that do not occur before it
abbrev pub IsNearestAt : (ℕ → ℕ → ℕ) → ℕ → List ℕ → ℕ → Type 0
IsNearestAt dist n cities j =
    IsFirst dist (slice_index cities j) (λ b. IsCity n b × IsNew cities (j + 1) b) (slice_index cities (j + 1))

-- from the start on, each next city is the nearest of those not yet in the list
pub record IsNearestTour (dist : ℕ → ℕ → ℕ) (n start : ℕ) (cities : List ℕ) : Type 0 where
  pub count : length cities ≡ n
  pub first : slice_index cities 0 ≡ start
  pub each : (j : ℕ) → j + 1 < n → IsNearestAt dist n cities j

-- all cities, the first j of them as in the nearest-neighbour tour
pub record IsNearestTo (dist : ℕ → ℕ → ℕ) (n start j : ℕ) (cities : List ℕ) : Type 0 where
  pub count : length cities ≡ n
  pub first : slice_index cities 0 ≡ start
  pub city : (i : ℕ) → i < n → IsCity n (slice_index cities i)
  pub apart : (i k : ℕ) → i < n → k < n → slice_index cities i ≡ slice_index cities k → i ≡ k
  pub whole : (b : ℕ) → IsCity n b → (q : ℕ) × (q < n) × (slice_index cities q ≡ b)
  pub each : (i : ℕ) → i + 1 < j → IsNearestAt dist n cities i

-- the beginning of a nearest-neighbour tour
pub record IsNearestPath (dist : ℕ → ℕ → ℕ) (n start : ℕ) (cities : List ℕ) : Type 0 where
  pub some : 0 < length cities
  pub first : slice_index cities 0 ≡ start
  pub each : (j : ℕ) → j + 1 < length cities → IsNearestAt dist n cities j
