-- Sums along a ring, by which the load of each of its paths is known at once. Positions are counted from 0.
--     load_up_to demands ring k      the load of the elements before the position k
--     copies_up_to demands ring k      the number of copies of the depot among them
--     AreSumsAlong demands ring sums      the sums are those along a ring
--     AreSumsBeside from to demands ring sums      they are, apart from the positions between two others
--     IsSpan, IsSpanBack      the load of some positions before the first copy, or behind the last
--     IsAhead      the load of walks before the first copy
use Rattle.std.specs.Prelude.{◌≡◌, ℕ, ◌+◌, ◌*◌, ◌^◌, ◌<◌, ◌≤◌, ◌⊎◌, Bool, true, false, List, length, take, sum_by}
use Rattle.std.specs.Prelude.{count_by}
use Rattle.std.specs.Prelude.{slice_index}
use Rattle.tk_rings.specs.Capacities.{demand_in, is_copy}
use Rattle.tk_rings.specs.Loads.{HasLoads}
use Rattle.tk_rings.specs.declared.stretch.Stretch.{Stretch}
use Rattle.tk_rings.specs.declared.sums.Sums.{Sums}

abbrev pub load_up_to : List ℕ → List ℕ → ℕ → ℕ
load_up_to demands ring k = sum_by (demand_in demands) (take k ring)

abbrev pub copies_up_to : List ℕ → List ℕ → ℕ → ℕ
copies_up_to demands ring k = count_by (is_copy demands) (take k ring)

-- as long as they are for a ring of n elements
pub record AreSumsOf (n : ℕ) (sums : Sums) : Type 0 where
  pub loads : length sums.loads.items ≡ n + 1
  pub counts : length sums.counts.items ≡ n + 1
  pub copies : length sums.copies.items ≡ n

-- the sums up to a position
pub record IsSummed (demands ring : List ℕ) (sums : Sums) (k : ℕ) : Type 0 where
  pub load : slice_index sums.loads.items k ≡ load_up_to demands ring k
  pub count : slice_index sums.counts.items k ≡ copies_up_to demands ring k
  pub light : load_up_to demands ring k ≤ 2 ^ 32 * k

-- a copy of the depot at a position is listed with it
abbrev pub IsListed : List ℕ → List ℕ → Sums → ℕ → Type 0
IsListed demands ring sums k =
    is_copy demands (slice_index ring k) ≡ true → slice_index sums.copies.items (copies_up_to demands ring k) ≡ k

pub record AreSumsAlong (demands ring : List ℕ) (sums : Sums) : Type 0 where
  pub sizes : AreSumsOf (length ring) sums
  pub summed : (k : ℕ) → k ≤ length ring → IsSummed demands ring sums k
  pub listed : (k : ℕ) → k < length ring → IsListed demands ring sums k

-- but for the positions from one up to another
pub record AreSumsBeside (from to : ℕ) (demands ring : List ℕ) (sums : Sums) : Type 0 where
  pub sizes : AreSumsOf (length ring) sums
  pub summed : (k : ℕ) → (k ≤ from) ⊎ (to < k) → k ≤ length ring → IsSummed demands ring sums k
  pub listed : (k : ℕ) → (k < from) ⊎ (to ≤ k) → k < length ring → IsListed demands ring sums k

-- the load of the positions p to q before the first copy of the depot, and whether there is one
pub record IsSpan (demands ring : List ℕ) (p q found : ℕ) (parted : Bool) : Type 0 where
  pub at : ℕ
  pub range : (p ≤ at) × (at ≤ q + 1)
  pub plain : (k : ℕ) → p ≤ k → k < at → is_copy demands (slice_index ring k) ≡ false
  pub load : found + load_up_to demands ring p ≡ load_up_to demands ring at
  pub copy : parted ≡ true → (at ≤ q) × (is_copy demands (slice_index ring at) ≡ true)
  pub whole : parted ≡ false → at ≡ q + 1

-- the load of the positions p to q behind the last copy of the depot, and whether there is one
pub record IsSpanBack (demands ring : List ℕ) (p q found : ℕ) (parted : Bool) : Type 0 where
  pub at : ℕ
  pub range : (p ≤ at) × (at ≤ q + 1)
  pub plain : (k : ℕ) → at ≤ k → k ≤ q → is_copy demands (slice_index ring k) ≡ false
  pub load : found + load_up_to demands ring at ≡ load_up_to demands ring (q + 1)
  pub copy : parted ≡ true → (last : ℕ) × (at ≡ last + 1) × (p ≤ last)
      × (is_copy demands (slice_index ring last) ≡ true)
  pub whole : parted ≡ false → at ≡ p

-- the load before the first copy of each walk between the elements at two positions, and whether there is one
abbrev pub IsAhead : List ℕ → List ℕ → Bool → ℕ → ℕ → ℕ → Bool → Type 0
IsAhead demands ring forward from to load parted =
    (q : ℕ) (s : Stretch) →
    HasLoads q demands ring (record { from = slice_index ring from; to = slice_index ring to; forward = forward }) s →
    (s.head ≡ load) × (s.parted ≡ parted)
