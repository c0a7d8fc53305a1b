-- The distances of the cities from the hub, which the savings of all pairs share.
use Rattle.std.specs.Prelude.{◌≡◌, ℕ, ◌+◌, List, length}
use Rattle.tk_starts.specs.PathEnds.{at}
use Rattle.tk_distance.specs.Cities.{IsCity}

-- the distance of each city is at the index of its number
pub record AreFromHub (dist : ℕ → ℕ → ℕ) (n hub : ℕ) (distances : List ℕ) : Type 0 where
  pub places : length distances ≡ n + 1
  pub each : (c : ℕ) → IsCity n c → at distances c ≡ dist hub c
