-- Paths, as lists whose first and last city compute.
use Rattle.std.proofs.Common.{◌≡◌, ◌≤◌, ℕ, ◌↔◌, true, List, [], ◌∷◌, length}
use Rattle.tk_problem.specs.declared.limits.TheConstants.{DISTANCE_LIMIT}
use Rattle.tk_distance.specs.Cities.{IsCity}
use Rattle.tk_distance.specs.Holding.{holds, IsDistinct}

-- the last city of a path that begins with a
abbrev pub last_from : ℕ → List ℕ → ℕ
last_from a [] = a
last_from a (b ∷ xs) = last_from b xs

-- a non-empty path from its first city to its last
abbrev pub Spans : List ℕ → ℕ → ℕ → Type 0
Spans [] a z = ⊥
Spans (b ∷ xs) a z = (b ≡ a) × (last_from b xs ≡ z)

-- a list that contains each of 1 to its length once
pub record IsRound (C : List ℕ) : Type 0 where
  pub members : (c : ℕ) → (holds C c ≡ true) ↔ IsCity (length C) c
  pub distinct : IsDistinct C

-- distances: symmetric, at most 4,000,000,000
abbrev pub IsTable : (ℕ → ℕ → ℕ) → Type 0
IsTable dist = ((a b : ℕ) → dist a b ≡ dist b a) × ((a b : ℕ) → dist a b ≤ DISTANCE_LIMIT)
