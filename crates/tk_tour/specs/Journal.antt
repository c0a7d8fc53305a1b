-- A journal of flips, and the order before them.
use Rattle.std.specs.Prelude.{ℕ, ◌-◌, ◌*◌, ◌/◌, ◌<◌, ◌≤◌, List, [], ◌∷◌, sum_by}
use Rattle.std.specs.List.{All}
use Rattle.tk_tour.specs.Reversal.{reversed_places}
use Rattle.tk_tour.specs.declared.store.Flip.{Flip}

-- the order before the flips, which are undone from the last to the first
abbrev pub undone : List Flip → List ℕ → List ℕ
undone [] order = order
undone (f ∷ fs) order = reversed_places (f.first - 1) f.count (undone fs order)

-- the number of swaps that undo the flips
abbrev pub swaps_to_undo : List Flip → ℕ
swaps_to_undo fs = sum_by (λ f. f.count / 2) fs

-- each flip begins at a position from 1 to n and reverses at most half of n positions
abbrev pub AreFlipsOf : ℕ → List Flip → Type 0
AreFlipsOf n fs = All (λ f. (0 < f.first) × (f.first ≤ n) × (2 * f.count ≤ n)) fs
