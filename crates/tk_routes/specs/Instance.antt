-- An instance of the CVRP: the nodes 1 to `size`, of which one is the depot and the others are customers.
--     IsInstanceOf problem i      the instance that a problem describes
--     customer_count i      the number of customers, which are numbered from 1
--     node_of depot k      the node of customer k: the k-th node that is not the depot
--     customer_of depot c      the customer of a node
--     demand_of i k      the demand of customer k
use Rattle.std.specs.Prelude.{◌≡◌, ℕ, ◌+◌, ◌-◌, List, nat_lt, if◌then◌else◌, IsSomeAnd}
use Rattle.tk_problem.specs.declared.problem.Problem.{Problem}
use Rattle.tk_distance.specs.Cities.{city_at}
use Rattle.tk_distance.specs.Weights.{problem_distance}

pub record Instance : Type 0 where
  pub size : ℕ
  pub distance : ℕ → ℕ → ℕ
  pub demands : List ℕ
  pub capacity : ℕ
  pub depot : ℕ

-- the instance that a problem with routing describes
pub record IsInstanceOf (problem : Problem) (i : Instance) : Type 0 where
  pub size : i.size ≡ problem.n
  pub distance : (a b : ℕ) → i.distance a b ≡ problem_distance problem.weights a b
  pub routing : IsSomeAnd problem.routing (λ r. (i.demands ≡ r.demand.items) × (i.capacity ≡ r.capacity)
      × (i.depot ≡ r.depot))

abbrev pub customer_count : Instance → ℕ
customer_count i = i.size - 1

-- the node of a customer, whose number is one higher than that of the customer if it is above the depot
abbrev pub node_of : ℕ → ℕ → ℕ
node_of depot k = if nat_lt k depot then k else k + 1

-- the customer of a node other than the depot
abbrev pub customer_of : ℕ → ℕ → ℕ
customer_of depot c = if nat_lt depot c then c - 1 else c

-- the demand of a customer
abbrev pub demand_of : Instance → ℕ → ℕ
demand_of i k = city_at i.demands (node_of i.depot k)
