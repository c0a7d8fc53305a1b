-- Cities with explicit weights in an array.
use Rattle.std.specs.Prelude.{◌≡◌, ◌≤◌, ℕ, ◌-◌, ◌*◌, ◌/◌, All, List, length}
use Rattle.tk_problem.specs.declared.limits.TheConstants.{DISTANCE_LIMIT, TABLE_LIMIT}

-- a weight of at most 4·10^9 for each pair of 2 to 5,000 cities
pub record AreWeights (n : ℕ) (weights : List ℕ) : Type 0 where
  pub some : 2 ≤ n
  pub few : n ≤ TABLE_LIMIT
  pub full : length weights ≡ n * (n - 1) / 2
  pub small : All (λ w. w ≤ DISTANCE_LIMIT) weights
