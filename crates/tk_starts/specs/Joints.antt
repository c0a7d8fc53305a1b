-- The savings algorithm as joints among the pairs (G. Clarke and J. W. Wright, 1964). E is the list of the joints made
-- before, the last one first.
--     joints_at E c      the number of joints of a city
--     part E c      the name of a city's part, which all cities connected by joints share
--     may_join load n capacity E p      whether the pair may become a joint
--     joints load n capacity [] pairs      the joints among the pairs, taken in their order
--     ArePartPaths n hub E lists      the parts of the cities except the hub, each as the path of its joints
use Rattle.std.specs.Prelude.{◌≡◌, ◌≢◌, ℕ, suc, zero, ◌+◌, ◌<◌, ◌≤◌, Bool, true, false, ◌&&◌, ◌||◌, not, nat_le, List}
use Rattle.std.specs.Prelude.{[], ◌∷◌, ◌==◌, if◌then◌else◌, length, ◌↔◌, slice_index_or}
use Rattle.std.specs.List.{All}
use Rattle.tk_distance.specs.Holding.{holds, IsDistinct}
use Rattle.tk_distance.specs.Cities.{IsCity}
use Rattle.tk_starts.specs.declared.merges.pairs.Pair.{Pair}

-- the number of joints of a city
unfoldable pub joints_at : List Pair → ℕ → ℕ
joints_at [] c = 0
joints_at (e ∷ E) c = (if (e.i == c) || (e.j == c) then 1 else 0) + joints_at E c

-- the name of a city's part: at first it is the city, and a joint gives the part of its second city the name of that of
-- its first
unfoldable pub part : List Pair → ℕ → ℕ
part [] c = c
part (e ∷ E) c = if part E c == part E e.j then part E e.i else part E c

-- the load of the part with this name, over the cities 1..n
unfoldable pub part_load : (ℕ → ℕ) → List Pair → ℕ → ℕ → ℕ
part_load load E zero name = 0
part_load load E (suc n) name = part_load load E n name + (if part E (suc n) == name then load (suc n) else 0)

-- whether a pair may be joined: each city has at most one joint, they are in two parts, and the total load of these is
-- within the capacity
unfoldable pub may_join : (ℕ → ℕ) → ℕ → ℕ → List Pair → Pair → Bool
may_join load n capacity E p =
    nat_le (joints_at E p.i) 1 && nat_le (joints_at E p.j) 1 && not (part E p.i == part E p.j) &&
    nat_le (part_load load E n (part E p.i) + part_load load E n (part E p.j)) capacity

-- the joints among the pairs, the last one first; each is decided by the joints before it
unfoldable pub joints : (ℕ → ℕ) → ℕ → ℕ → List Pair → List Pair → List Pair
joints load n capacity E [] = E
joints load n capacity E (p ∷ pairs) = joints load n capacity (if may_join load n capacity E p then p ∷ E else E) pairs

-- whether this is a joint of the two cities
abbrev pub IsJoint : ℕ → ℕ → Pair → Bool
IsJoint a b e = ((e.i == a) && (e.j == b)) || ((e.i == b) && (e.j == a))

unfoldable pub joined : List Pair → ℕ → ℕ → Bool
joined [] a b = false
joined (e ∷ E) a b = IsJoint a b e || joined E a b

-- any two neighbours in the list are joined
unfoldable pub IsChain : List Pair → ℕ → List ℕ → Type 0
IsChain E a [] = Unit {0}
IsChain E a (b ∷ xs) = (joined E a b ≡ true) × IsChain E b xs

abbrev pub last_from : ℕ → List ℕ → ℕ
last_from a [] = a
last_from a (b ∷ xs) = last_from b xs

-- a path of joints leads from a to b
abbrev pub IsConnected : List Pair → ℕ → ℕ → Type 0
IsConnected E a b = (xs : List ℕ) × IsChain E a xs × (last_from a xs ≡ b)

-- the part of the first city as the path of its joints, which does not end with a smaller city than it begins with
unfoldable pub IsPartPath : List Pair → List ℕ → Type 0
IsPartPath E [] = ⊥
IsPartPath E (a ∷ xs) = IsChain E a xs × IsDistinct (a ∷ xs) × (a ≤ last_from a xs)
    × ((b : ℕ) → (holds (a ∷ xs) b ≡ true) ↔ (part E b ≡ part E a))

unfoldable pub first_of : List ℕ → ℕ
first_of [] = 0
first_of (a ∷ xs) = a

-- the parts of the cities 1..n except the hub, each once, ordered by first city
pub record ArePartPaths (n hub : ℕ) (E : List Pair) (lists : List (List ℕ)) : Type 0 where
  pub paths : All (IsPartPath E) lists
  pub cities : (c : ℕ) →
      ((k : ℕ) × (k < length lists) × (holds (slice_index_or lists k []) c ≡ true)) ↔ (IsCity n c × (c ≢ hub))
  pub once : (c k l : ℕ) → k < length lists → l < length lists → holds (slice_index_or lists k []) c ≡ true →
      holds (slice_index_or lists l []) c ≡ true → k ≡ l
  pub order : (k : ℕ) → k + 1 < length lists →
      first_of (slice_index_or lists k []) < first_of (slice_index_or lists (k + 1) [])
