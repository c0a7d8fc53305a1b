-- The positions of the first entries of a list.
use Rattle.std.proofs.Common.{◌≡◌, ◌≢◌, ℕ, ◌+◌, ◌-◌, ◌<◌, ◌≤◌, List, length, arith, get_or}
use Rattle.tk_tour.specs.Reversal.{IsInverse}

-- `place` contains the positions of the first `done` cities, and no other positions
pub record Placing (cities place : List ℕ) (done : ℕ) : Type 0 where
  pub size : length place ≡ length cities
  pub placed : (k : ℕ) → k < done → (0 < get_or cities k 0) × (get_or cities k 0 ≤ length cities)
      × (get_or place (get_or cities k 0 - 1) 0 ≡ k)
  pub others : (i : ℕ) → i < length place → get_or place i 0 ≢ 4294967295 →
      (get_or place i 0 < done) × (get_or cities (get_or place i 0) 0 ≡ i + 1)

pub Placing-all : (cities place : List ℕ) (k : ℕ) → Placing cities place k → length cities ≤ k → IsInverse cities place
Placing-all cities place k h le = (h.size, λ j lj. h.placed j (omega arith))
