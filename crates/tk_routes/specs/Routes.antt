-- Routes of vehicles, as lists of customers. Each begins and ends at the depot.
--     route_load i route      the sum of the demands
--     route_length i route      the length of the closed tour through the depot and the route
--     routes_cost i routes      the sum of the lengths
--     AreRoutes i routes      each customer is on one route, and no vehicle is overloaded
use Rattle.std.specs.Prelude.{◌≤◌, ℕ, List, ◌∷◌, length, map}
use Rattle.std.specs.List.{All, concat, sum_by}
use Rattle.tk_tour.specs.Tour.{IsTour, tour_length}
use Rattle.tk_routes.specs.Instance.{Instance, customer_count, node_of, demand_of}

abbrev pub route_load : Instance → List ℕ → ℕ
route_load i route = sum_by (demand_of i) route

-- the depot and the nodes of a route
abbrev pub route_nodes : Instance → List ℕ → List ℕ
route_nodes i route = i.depot ∷ map (node_of i.depot) route

abbrev pub route_length : Instance → List ℕ → ℕ
route_length i route = tour_length i.distance (route_nodes i route)

abbrev pub routes_cost : Instance → List (List ℕ) → ℕ
routes_cost i routes = sum_by (route_length i) routes

-- the load does not exceed the capacity
abbrev pub IsLight : Instance → List ℕ → Type 0
IsLight i route = route_load i route ≤ i.capacity

-- lists that contain each customer once in all; none of them is empty, and each is within the capacity
pub record AreRoutes (i : Instance) (routes : List (List ℕ)) : Type 0 where
  pub filled : All (λ route. 1 ≤ length route) routes
  pub once : IsTour (customer_count i) (concat routes)
  pub light : All (IsLight i) routes
