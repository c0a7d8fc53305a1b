-- Integer roots.
use Rattle.std.specs.Prelude.{ℕ, ◌*◌, ◌≤◌}

-- r is the largest number whose square is at most x
pub record IsRoot (x r : ℕ) : Type 0 where
  pub fits : r * r ≤ x
  pub greatest : (s : ℕ) → s * s ≤ x → s ≤ r

-- r is the smallest number whose square is at least x
pub record IsRootUp (x r : ℕ) : Type 0 where
  pub reaches : x ≤ r * r
  pub least : (s : ℕ) → x ≤ s * s → r ≤ s
