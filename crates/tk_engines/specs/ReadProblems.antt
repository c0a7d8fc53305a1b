-- The distances of a problem that was read, and the instance for its routes.
use Rattle.std.specs.Prelude.{ℕ}
use Rattle.tk_problem_text.specs.Problem.{ProblemIs, RoutingIs, WeightsAre}
use Rattle.tk_problem_text.specs.Problem as value
use Rattle.tk_distance.specs.PlaneOf.{city_distance}
use Rattle.tk_distance.specs.Weights.{weight_between}
use Rattle.tk_routes.specs.Instance.{Instance}

-- the distances of a problem that was read
abbrev pub read_distance : WeightsAre → ℕ → ℕ → ℕ
read_distance (value.Points kind points) = city_distance kind points
read_distance (value.Lower weights) = weight_between weights

-- the instance of a problem with a routing
abbrev pub instance_in : ProblemIs → RoutingIs → Instance
instance_in p r = record {
  size = p.n;
  distance = read_distance p.weights;
  demands = r.demand;
  capacity = r.capacity;
  depot = r.depot;
}
