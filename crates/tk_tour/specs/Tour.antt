-- Tours and cycles of cities.
--     IsTour n cities      the list contains each of 1 to n once
--     IsRotation xs ys      ys is xs, beginning at any of its positions
--     SameCycle xs ys      one is a rotation of the other or of its reverse
--     IsPath from cities to      a list that begins with one city and ends with the other
--     next_city cities c, prev_city cities c      the neighbours of c
--     tour_length distance cities      the sum of the distances along the cycle
use Rattle.std.specs.Prelude.{◌≡◌, ℕ, ◌+◌, ◌-◌, ◌<◌, ◌≤◌, ◌==◌, ◌⊎◌, List, [], ◌∷◌, ◌++◌, length, reverse, count_by}
use Rattle.std.specs.Prelude.{slice_index, ◌%◌}
use Rattle.std.specs.List.{position_or_len}
use Rattle.tk_problem.specs.declared.limits.TheConstants.{CITY_LIMIT}

-- how often a city occurs in a list
unfoldable pub occurrences : ℕ → List ℕ → ℕ
occurrences c cities = count_by (λ x. x == c) cities

-- a tour of n cities: n entries, among which each of 1 to n occurs once
abbrev pub IsTour : ℕ → List ℕ → Type 0
IsTour n cities = (length cities ≡ n) × ((c : ℕ) → 0 < c → c ≤ n → occurrences c cities ≡ 1)

-- a tour of 2 to 100,000 cities
abbrev pub IsSizedTour : List ℕ → Type 0
IsSizedTour cities = (2 ≤ length cities) × (length cities ≤ CITY_LIMIT) × IsTour (length cities) cities

-- the first position of a city, counted from 0
unfoldable pub place_of : ℕ → List ℕ → ℕ
place_of c cities = position_or_len (λ x. x == c) cities

-- the city after c on the cycle, and the one before it
unfoldable pub next_city : List ℕ → ℕ → ℕ
next_city cities c = slice_index cities ((place_of c cities + 1) % length cities)

unfoldable pub prev_city : List ℕ → ℕ → ℕ
prev_city cities c = slice_index cities ((place_of c cities + length cities - 1) % length cities)

-- ys is xs, beginning at any of its positions
pub record IsRotation (xs ys : List ℕ) : Type 0 where
  pub front : List ℕ
  pub back : List ℕ
  pub before : xs ≡ front ++ back
  pub after : ys ≡ back ++ front

-- the same cycle: one is a rotation of the other or of its reverse
abbrev pub SameCycle : List ℕ → List ℕ → Type 0
SameCycle xs ys = IsRotation xs ys ⊎ IsRotation xs (reverse ys)

-- a path: the list begins with one city and ends with the other
abbrev pub IsPath : ℕ → List ℕ → ℕ → Type 0
IsPath from cities to = ((rest : List ℕ) × (cities ≡ from ∷ rest)) × ((rest : List ℕ) × (cities ≡ rest ++ to ∷ []))

-- the length of the way from a city along a list
abbrev pub walk : (ℕ → ℕ → ℕ) → ℕ → List ℕ → ℕ
walk distance from [] = 0
walk distance from (city ∷ cities) = distance from city + walk distance city cities

-- the length of a tour: the sum of the distances along the cycle, so twice the distance if there are two cities
abbrev pub tour_length : (ℕ → ℕ → ℕ) → List ℕ → ℕ
tour_length distance [] = 0
tour_length distance (first ∷ cities) = walk distance first (cities ++ first ∷ [])
