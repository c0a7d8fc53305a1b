-- Requirements for the routes of a problem that are drawn.
--     AreCustomers cvrp route      the route contains only customers of the problem
--     ServeOnce cvrp routes      so do all routes, and no customer occurs twice
--     RoutesFit n cvrp routes      like ServeOnce, for a problem with n nodes
use Rattle.std.specs.Prelude.{◌≡◌, ℕ, List, All, Vec, map}
use Rattle.std.specs.List.{concat}
use Rattle.std.specs.declared.alloc.Global.{Global}
use Rattle.tk_distance.specs.Cities.{IsCity}
use Rattle.tk_routes.specs.Cvrps.{instance_of}
use Rattle.tk_routes.specs.Instance.{customer_count}
use Rattle.tk_routes.specs.RouteVerdicts.{AreServedOnce}
use Rattle.tk_routes.specs.declared.cvrp.Cvrp.{Cvrp}

abbrev pub AreCustomers : Cvrp → List ℕ → Type 0
AreCustomers cvrp route = All (IsCity (customer_count (instance_of cvrp))) route

abbrev pub ServeOnce : Cvrp → List (Vec ℕ Global) → Type 0
ServeOnce cvrp routes = AreServedOnce (customer_count (instance_of cvrp)) (concat (map (λ r. r.items) routes))

abbrev pub RoutesFit : ℕ → Cvrp → List (Vec ℕ Global) → Type 0
RoutesFit n cvrp routes = ((instance_of cvrp).size ≡ n) × ServeOnce cvrp routes
