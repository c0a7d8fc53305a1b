-- The verdict on a list.
use Rattle.std.specs.Prelude.{◌≡◌, ◌≢◌, ℕ, ◌-◌, ◌<◌, ◌≤◌, ◌⊎◌, List, length, slice_index}
use Rattle.tk_tour.specs.Tour.{IsTour}
use Rattle.tk_tour.specs.declared.verdict.Verdict.{Verdict}
use Rattle.tk_tour.specs.declared.verdict.Verdict.TheVariants.{Tour, WrongCount, OutOfRange, RepeatedCity}

-- each entry before position k, counted from 0, is from 1 to n and different from all entries before it
abbrev pub IsGoodTo : ℕ → List ℕ → ℕ → Type 0
IsGoodTo n cities k =
    (j : ℕ) → j < k → (0 < slice_index cities j) × (slice_index cities j ≤ n)
    × ((i : ℕ) → i < j → slice_index cities i ≢ slice_index cities j)

-- the verdict on a list that should be a tour of n cities: a tour, or its first fault. The count is checked first, and
-- then, position by position, the range before repetitions. Positions are counted from 1.
abbrev pub IsVerdict : ℕ → List ℕ → Verdict → Type 0
IsVerdict n cities Tour = IsTour n cities
IsVerdict n cities WrongCount = length cities ≢ n
IsVerdict n cities (OutOfRange p) =
    (length cities ≡ n) × (0 < p) × (p ≤ n) × IsGoodTo n cities (p - 1)
    × ((slice_index cities (p - 1) ≡ 0) ⊎ (n < slice_index cities (p - 1)))
IsVerdict n cities (RepeatedCity p) =
    (length cities ≡ n) × (0 < p) × (p ≤ n) × IsGoodTo n cities (p - 1) × (0 < slice_index cities (p - 1))
    × (slice_index cities (p - 1) ≤ n)
    × ((j : ℕ) × (j < p - 1) × (slice_index cities j ≡ slice_index cities (p - 1)))

-- P, if the verdict is a tour
abbrev pub IsPlacedWhere : Verdict → Type 0 → Type 0
IsPlacedWhere Tour P = P
IsPlacedWhere _ P = Unit {0}
