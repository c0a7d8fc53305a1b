-- Near lists of a distance table over the cities 1 to n (candidates, neighbour lists: J. L. Bentley, 1992).
--     IsCloser dist c a b      seen from c, a comes before b in the order of (distance, number)
--     IsFirst dist c P b      b is the first of the cities that satisfy P, seen from c
--     IsNear dist n k c cities      the nearest k of the cities 1 to n other than c; c need not be one of them
--     AreNearestAmong dist m v      each list of v is that of its city, among the cities 1 to m
--     AreNearest dist v      each list of v is that of its city, among all cities
--     AreNearLists dist n k v      v contains exactly the near lists of n cities, with k cities each
--     AreNearListsAmong dist n m k v      the same, with near lists among the cities 1 to m
use Rattle.std.specs.Prelude.{◌≡◌, ◌≢◌, ℕ, ◌-◌, ◌*◌, ◌<◌, ◌≤◌, ◌⊎◌, List, length, slice_index, take, drop, All}
use Rattle.tk_problem.specs.declared.limits.TheConstants.{CANDIDATE_LIMIT, CITY_LIMIT}
use Rattle.tk_distance.specs.Cities.{IsCity}

-- seen from c, a comes before b in the order of (distance, number)
abbrev pub IsCloser : (ℕ → ℕ → ℕ) → ℕ → ℕ → ℕ → Type 0
IsCloser dist c a b = (dist c a < dist c b) ⊎ ((dist c a ≡ dist c b) × (a < b))

-- b is the first of the cities that satisfy P, seen from c
pub record IsFirst (dist : ℕ → ℕ → ℕ) (c : ℕ) (P : ℕ → Type 0) (b : ℕ) : Type 0 where
  pub member : P b
  pub before : (a : ℕ) → P a → a ≢ b → IsCloser dist c b a

-- b is not among the first j of the list
abbrev pub IsNew : List ℕ → ℕ → ℕ → Type 0
IsNew cities j b = (i : ℕ) → i < j → slice_index cities i ≢ b

-- the nearest k of the cities 1 to n other than c: each is the first of those that do not occur before it
pub record IsNear (dist : ℕ → ℕ → ℕ) (n k c : ℕ) (cities : List ℕ) : Type 0 where
  pub count : length cities ≡ k
  pub each : (j : ℕ) → j < k → IsFirst dist c (λ b. IsCity n b × (b ≢ c) × IsNew cities j b) (slice_index cities j)

-- near lists: `width` entries for each of the cities 1 to `size`, one list after another
pub record NearLists : Type 0 where
  pub size : ℕ
  pub width : ℕ
  pub entries : List ℕ

-- the c-th of the lists, which have k entries each and follow one another
abbrev pub block : ℕ → List ℕ → ℕ → List ℕ
block k entries c = take k (drop ((c - 1) * k) entries)

-- the list of city c
abbrev pub near_of : NearLists → ℕ → List ℕ
near_of v c = block v.width v.entries c

-- b is one of the cities 1 to n, other than c
abbrev pub IsOther : ℕ → ℕ → ℕ → Type 0
IsOther n c b = IsCity n b × (b ≢ c)

-- `width` other cities for each city, within the limits of instances and candidates
pub record HasOthers (v : NearLists) : Type 0 where
  pub few : v.size ≤ CITY_LIMIT
  pub narrow : v.width ≤ CANDIDATE_LIMIT
  pub count : length v.entries ≡ v.size * v.width
  pub each : (c : ℕ) → IsCity v.size c → All (IsOther v.size c) (near_of v c)

-- each list is the near list of its city among the cities 1 to m
pub record AreNearestAmong (dist : ℕ → ℕ → ℕ) (m : ℕ) (v : NearLists) : Type 0 where
  pub count : length v.entries ≡ v.size * v.width
  pub each : (c : ℕ) → IsCity v.size c → IsNear dist m v.width c (near_of v c)

-- each list is the near list of its city among all cities
abbrev pub AreNearest : (ℕ → ℕ → ℕ) → NearLists → Type 0
AreNearest dist v = AreNearestAmong dist v.size v

-- the near lists of n cities, with k other cities each
pub record AreNearLists (dist : ℕ → ℕ → ℕ) (n k : ℕ) (v : NearLists) : Type 0 where
  pub size : v.size ≡ n
  pub width : v.width ≡ k
  pub near : AreNearest dist v

-- the near lists of n cities, with k of the cities 1 to m each
pub record AreNearListsAmong (dist : ℕ → ℕ → ℕ) (n m k : ℕ) (v : NearLists) : Type 0 where
  pub size : v.size ≡ n
  pub width : v.width ≡ k
  pub near : AreNearestAmong dist m v
