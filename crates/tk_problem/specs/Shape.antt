-- Properties of every problem.
use Rattle.std.specs.Prelude.{◌≡◌, ◌≤◌, ℕ, ◌-◌, ◌*◌, ◌/◌, length, All, Option, Some, None, slice_index}
use Rattle.tk_problem.specs.declared.limits.TheConstants.{CAPACITY_LIMIT, DISTANCE_LIMIT, TABLE_LIMIT}
use Rattle.tk_problem.specs.declared.weights.Weights.{Weights}
use Rattle.tk_problem.specs.declared.weights.Weights.TheVariants.{Points, Lower}
use Rattle.tk_problem.specs.declared.routing.Routing.{Routing}

-- a point for each of n cities, or a weight of at most 4·10^9 for each pair of at most 5,000 cities
abbrev pub WeightsFit : ℕ → Weights → Type 0
WeightsFit n (Points kind places) = length places ≡ n
WeightsFit n (Lower weights) =
    (n ≤ TABLE_LIMIT) × (length weights.items ≡ n * (n - 1) / 2) × All (λ w. w ≤ DISTANCE_LIMIT) weights.items

-- at most 5,000 nodes, each with a demand of at most the capacity, which is within its limit; the depot is one of the
-- nodes and has the demand 0
pub record IsRouting (n : ℕ) (r : Routing) : Type 0 where
  pub few : n ≤ TABLE_LIMIT
  pub demands : length r.demand.items ≡ n
  pub loads : All (λ q. q ≤ r.capacity) r.demand.items
  pub capacity : r.capacity ≤ CAPACITY_LIMIT
  pub depot : (1 ≤ r.depot) × (r.depot ≤ n)
  pub rests : slice_index r.demand.items (r.depot - 1) ≡ 0

abbrev pub RoutingFits : ℕ → Option Routing → Type 0
RoutingFits n None = Unit {0}
RoutingFits n (Some r) = IsRouting n r
