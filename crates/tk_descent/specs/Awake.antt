-- The queue of waking cities.
use Rattle.std.specs.Prelude.{◌≡◌, ℕ, zero, suc, ◌≤◌, ◌<◌, Bool, true, false, List, [], ◌∷◌, ◌++◌}
use Rattle.std.specs.Prelude.{if◌then◌else◌, length, count_by, slice_index_or}
use Rattle.tk_distance.specs.Holding.{holds, IsDistinct}

-- the cities that are awake, in the order of the queue, out of 1 to `size`
pub record Awake : Type 0 where
  pub queue : List ℕ
  pub size : ℕ

-- the queue W after c was woken: c comes last if it was asleep
abbrev pub woken : List ℕ → ℕ → List ℕ
woken W c = if holds W c then W else W ++ c ∷ []

-- a queue after each city of a list was woken in turn
abbrev pub woken_each : List ℕ → List ℕ → List ℕ
woken_each W [] = W
woken_each W (c ∷ cs) = woken_each (woken W c) cs

-- the queue contains each city whose flag is set, once, and no other city
pub record IsWaking (items : List ℕ) (flags : List Bool) : Type 0 where
  pub count : count_by (λ b. b) flags ≡ length items
  pub flag : (c : ℕ) → c < length flags → slice_index_or flags c false ≡ holds items c
  pub range : (c : ℕ) → holds items c ≡ true → (1 ≤ c) × (c < length flags)
  pub distinct : IsDistinct items

-- the list 1, 2, .., n
abbrev pub one_to : ℕ → List ℕ
one_to zero = []
one_to (suc n) = one_to n ++ suc n ∷ []
