-- How many array positions are written, and the swaps that pay for them.
use Rattle.std.specs.Prelude.{ℕ, ◌+◌, ◌-◌, ◌*◌, ◌/◌, ◌≤◌, ◌==◌, List, [], ◌∷◌, if◌then◌else◌}

-- the number of positions at which two arrays differ
abbrev pub changed : List ℕ → List ℕ → ℕ
changed [] ys = 0
changed (x ∷ xs) [] = 0
changed (x ∷ xs) (y ∷ ys) = (if x == y then 0 else 1) + changed xs ys

-- The swaps pay for the writes: an array of n positions can be rewritten each time that there are `room` more segments.
-- Twice `room` times the swaps is at least `room` times the writes plus n for each segment after the first.
pub record ArePaid (n room writes segments swaps : ℕ) : Type 0 where
  pub some : 1 ≤ segments
  pub paid : room * writes + n * (segments - 1) ≤ 2 * (room * swaps)

-- the swaps of reversals of more than `short` positions pay for rewriting an array of n positions, with at most `most`
-- segments
abbrev pub AreEnough : ℕ → ℕ → ℕ → Type 0
AreEnough n short most = (3 ≤ most) × (n ≤ (most - 2) * ((short + 1) / 2))
