-- Positions on a cycle.
use Rattle.std.specs.Prelude.{◌≡◌, ℕ, ◌+◌, ◌<◌, ◌≤◌, ◌⊎◌}

-- among n positions on a cycle, counted from 0, v is k positions after `begin`
abbrev pub IsPlaceFrom : ℕ → ℕ → ℕ → ℕ → Type 0
IsPlaceFrom n begin k v = (begin + k < n → v ≡ begin + k) × (n ≤ begin + k → v + n ≡ begin + k)

-- on a cycle of n positions, there are m from one up to another, both included
abbrev pub PathLength : ℕ → ℕ → ℕ → ℕ → Type 0
PathLength n m from to = ((from ≤ to) × (m + from ≡ to + 1)) ⊎ ((to < from) × (m + from ≡ to + n + 1))
