-- Positions of a list, counted modulo its length, and their reversal.
use Rattle.std.specs.Prelude.{◌≡◌, ℕ, ◌+◌, ◌-◌, ◌*◌, ◌/◌, ◌<◌, ◌≤◌, List, ◌++◌, length, reverse, take, drop}
use Rattle.std.specs.Prelude.{slice_index}

-- the rotation of xs that begins with the position k, counted from 0
abbrev pub begun_at : ℕ → List ℕ → List ℕ
begun_at k xs = drop k xs ++ take k xs

-- xs with its first `count` entries reversed
abbrev pub reversed_front : ℕ → List ℕ → List ℕ
reversed_front count xs = reverse (take count xs) ++ drop count xs

-- xs with `count` positions from k on reversed, counted from 0 and modulo the length
abbrev pub reversed_places : ℕ → ℕ → List ℕ → List ℕ
reversed_places k count xs = begun_at (length xs - k) (reversed_front count (begun_at k xs))

-- one list comes from another by this many reversals, each of at most half of the positions, with this many swaps
pub data AreReversed (old : List ℕ) : List ℕ → ℕ → ℕ → Type 0 where
  none : AreReversed old old 0 0
  more : {new : List ℕ} {flips swaps : ℕ} (k count : ℕ) → AreReversed old new flips swaps →
      k < length new → 2 * count ≤ length new →
      AreReversed old (reversed_places k count new) (flips + 1) (swaps + count / 2)

-- `place` contains the position of each city c of the order, counted from 0, at index c - 1
abbrev pub IsInverse : List ℕ → List ℕ → Type 0
IsInverse order place =
    (length place ≡ length order) × ((k : ℕ) → k < length order →
    (0 < slice_index order k) × (slice_index order k ≤ length order)
    × (slice_index place (slice_index order k - 1) ≡ k))
