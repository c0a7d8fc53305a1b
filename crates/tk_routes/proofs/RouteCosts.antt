-- The lengths of routes and their sum.
use Rattle.std.proofs.Common.{◌≡◌, ℕ, ◌*◌, ◌≤◌, List, [], ◌∷◌, length, arith, length-append}
use Rattle.std.specs.List.{concat}
use Rattle.std.proofs.lemmas.List.{length-map}
use Rattle.std.proofs.lemmas.List.Sums.{sum_by-cons}
use Rattle.tk_problem.specs.declared.limits.TheConstants.{DISTANCE_LIMIT}
use Rattle.tk_tour.proofs.Lengths.{tour_length-limit}
use Rattle.tk_routes.specs.Instance.{Instance, node_of}
use Rattle.tk_routes.specs.Routes.{route_nodes, route_length, routes_cost}

-- a route without customers has length 0
pub route_length-nil : (i : Instance) → ((a : ℕ) → i.distance a a ≡ 0) → route_length i [] ≡ 0
route_length-nil i diagonal = omega (arith, diagonal i.depot)

pub route_length-limit : (i : Instance) (route : List ℕ) → ((a : ℕ) → i.distance a a ≡ 0) →
    ((a b : ℕ) → i.distance a b ≤ DISTANCE_LIMIT) → route_length i route ≤ 8000000000 * length route
route_length-limit i [] diagonal limit = omega (arith, diagonal i.depot)
route_length-limit i (x ∷ xs) diagonal limit =
    omega (
      arith,
      tour_length-limit i.distance DISTANCE_LIMIT (route_nodes i (x ∷ xs)) limit,
      length-map xs (node_of i.depot),
    )

pub routes_cost-limit : (i : Instance) (routes : List (List ℕ)) → ((a : ℕ) → i.distance a a ≡ 0) →
    ((a b : ℕ) → i.distance a b ≤ DISTANCE_LIMIT) →
    routes_cost i routes ≤ 8000000000 * length (concat routes)
routes_cost-limit i [] diagonal limit = omega arith
routes_cost-limit i (route ∷ routes) diagonal limit =
    omega (
      arith,
      sum_by-cons (route_length i) route routes,
      route_length-limit i route diagonal limit,
      routes_cost-limit i routes diagonal limit,
      length-append route (concat routes),
    )
