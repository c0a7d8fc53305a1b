-- The candidates of a city, in order.
use Rattle.std.specs.Prelude.{◌≡◌, ℕ, ◌+◌, ◌*◌, ◌<◌, ◌≤◌, List, [], ◌∷◌, ◌++◌, length, take, drop, replicate, map}
use Rattle.std.specs.Prelude.{nat_lt, slice_index_or, if◌then◌else◌, All, Contains, ⊤}
use Rattle.tk_near.specs.declared.candidates.Candidate.{Candidate}
use Rattle.tk_distance.specs.Cities.{IsCity}
use Rattle.tk_near.specs.Near.{IsNear, block}

-- (distance, number) as one sort key
abbrev pub rank : Candidate → ℕ
rank x = x.distance * 4294967296 + x.city

abbrev pub candidate : (ℕ → ℕ → ℕ) → ℕ → ℕ → Candidate
candidate dist c b = record { distance = dist c b; city = b }

-- an empty slot, which comes after each candidate
abbrev pub empty_slot : Candidate
empty_slot = record { distance = 4294967295; city = 4294967295 }

-- the slots from i on are empty
abbrev pub AreOpenFrom : ℕ → List Candidate → Type 0
AreOpenFrom i kept = (j : ℕ) (d : Candidate) → i ≤ j → j < length kept → slice_index_or kept j d ≡ empty_slot

abbrev pub cities_kept : List Candidate → List ℕ
cities_kept = map (λ x. x.city)

-- each element is related by R to all elements after it
abbrev pub Ordered : {X : Type 0} → (X → X → Type 0) → List X → Type 0
Ordered R [] = ⊤
Ordered R (x ∷ xs) = All (R x) xs × Ordered R xs

-- strictly increasing in f; and not decreasing in f
abbrev pub Rising : {X : Type 0} → (X → ℕ) → List X → Type 0
Rising f xs = Ordered (λ x y. f x < f y) xs

abbrev pub Climbing : {X : Type 0} → (X → ℕ) → List X → Type 0
Climbing f xs = Ordered (λ x y. f x ≤ f y) xs

-- x is inserted before the first element with a greater f
abbrev pub insert_by : {X : Type 0} → (X → ℕ) → X → List X → List X
insert_by f x [] = x ∷ []
insert_by f x (y ∷ ys) = if nat_lt (f x) (f y) then x ∷ y ∷ ys else y ∷ insert_by f x ys

-- the candidates kept, after one has been inserted in order and the last one dropped
abbrev pub with_candidate : Candidate → List Candidate → List Candidate
with_candidate x kept = take (length kept) (insert_by rank x kept)

-- the entries, with those from an index on replaced by a row
abbrev pub overwritten : ℕ → List ℕ → List ℕ → List ℕ
overwritten from row entries = take from entries ++ row ++ drop (from + length row) entries

-- the nearest k of the m cities that satisfy Seen, in order, followed by empty slots if there are fewer
pub record KeepsFirst (dist : ℕ → ℕ → ℕ) (c k m : ℕ) (Seen : ℕ → Type 0) (kept : List Candidate) : Type 0 where
  pub whole : List Candidate
  pub count : length whole ≡ m
  pub rising : Rising rank whole
  pub each : All (λ x. (x.distance ≡ dist c x.city) × Seen x.city) whole
  pub holds : (b : ℕ) → Seen b → Contains whole (candidate dist c b)
  pub first : kept ≡ take k (whole ++ replicate k empty_slot)

-- k entries for each of n cities; those of the cities that satisfy Done are their near lists among the cities 1 to m
pub record AreFilledAmong (dist : ℕ → ℕ → ℕ) (n m k : ℕ) (Done : ℕ → Type 0) (entries : List ℕ) : Type 0 where
  pub count : length entries ≡ n * k
  pub each : (c : ℕ) → IsCity n c → Done c → IsNear dist m k c (block k entries c)

-- the same, with near lists among all n cities
abbrev pub AreFilled : (ℕ → ℕ → ℕ) → ℕ → ℕ → (ℕ → Type 0) → List ℕ → Type 0
AreFilled dist n k = AreFilledAmong dist n n k
