-- What callers see of a `Routes`.
use Rattle.std.specs.Prelude.{ℕ, List}
use Rattle.tk_lists.specs.Solution.{lists_of}
use Rattle.tk_routes.specs.Cvrps.{instance_of}
use Rattle.tk_routes.specs.Instance.{Instance}
use Rattle.tk_routes.specs.declared.routes.Routes.{Routes}

-- the customers of each route
abbrev pub routes_of : Routes → List (List ℕ)
routes_of routes = lists_of routes.lists.items

-- the instance of the routes
abbrev pub instance_of_routes : Routes → Instance
instance_of_routes routes = instance_of routes.cvrp
