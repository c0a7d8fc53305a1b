-- The pairs of cities that the savings algorithm considers (G. Clarke and J. W. Wright, 1964), over near lists.
--     saving_of dist hub i j      the saving of the edge i-j
--     IsPair dist n hub p      two cities i < j other than the hub, with a positive saving
--     IsCandidate dist near n hub p      such a pair of which one city is near the other
--     AreSavingPairs dist near n hub pairs      all of them, each once, in the order of the savings rule
use Rattle.std.specs.Prelude.{◌≡◌, ◌≢◌, ℕ, ◌+◌, ◌-◌, ◌<◌, true, List, ◌⊎◌, ◌↔◌}
use Rattle.std.specs.List.{AllPairs, Contains}
use Rattle.tk_distance.specs.Holding.{holds}
use Rattle.tk_distance.specs.Cities.{IsCity}
use Rattle.tk_starts.specs.declared.merges.pairs.Pair.{Pair}

-- what the edge i-j costs less than the two trips to the hub that it replaces, or 0
abbrev pub saving_of : (ℕ → ℕ → ℕ) → ℕ → ℕ → ℕ → ℕ
saving_of dist hub i j = (dist hub i + dist hub j) - dist i j

-- two cities i < j other than the hub, with their positive saving
pub record IsPair (dist : ℕ → ℕ → ℕ) (n hub : ℕ) (p : Pair) : Type 0 where
  pub rising : p.i < p.j
  pub first : IsCity n p.i × (p.i ≢ hub)
  pub second : IsCity n p.j × (p.j ≢ hub)
  pub saving : p.saving.0 ≡ saving_of dist hub p.i p.j
  pub positive : 0 < p.saving.0

-- such a pair of which one city is near the other
abbrev pub IsCandidate : (ℕ → ℕ → ℕ) → (ℕ → List ℕ) → ℕ → ℕ → Pair → Type 0
IsCandidate dist near n hub p = IsPair dist n hub p × ((holds (near p.i) p.j ≡ true) ⊎ (holds (near p.j) p.i ≡ true))

-- the pair of c and d
abbrev pub IsPairOf : ℕ → ℕ → Pair → Type 0
IsPairOf c d p = ((p.i ≡ c) × (p.j ≡ d)) ⊎ ((p.i ≡ d) × (p.j ≡ c))

-- by decreasing saving, then by i, then by j
abbrev pub Before : Pair → Pair → Type 0
Before p q = (q.saving.0 < p.saving.0) ⊎ ((p.saving.0 ≡ q.saving.0) × ((p.i < q.i) ⊎ ((p.i ≡ q.i) × (p.j < q.j))))

-- the candidate pairs of the savings rule, each once, in their order
pub record AreSavingPairs (dist : ℕ → ℕ → ℕ) (near : ℕ → List ℕ) (n hub : ℕ) (pairs : List Pair) : Type 0 where
  pub order : AllPairs Before pairs
  pub all : (p : Pair) → Contains pairs p ↔ IsCandidate dist near n hub p
