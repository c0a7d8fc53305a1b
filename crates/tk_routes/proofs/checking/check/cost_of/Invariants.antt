use Rattle.std.proofs.Common.{◌≡◌, pos, take}
use Rattle.std.specs.Prelude.{map}
use Rattle.tk_routes.specs.Cvrps.{instance_of}
use Rattle.tk_routes.specs.Routes.{routes_cost}
use Rattle.tk_routes.proofs.checking.check.cost_of.Given as goal

abbrev pub invariant-loop-route : goal.invariant-loop-route
invariant-loop-route l =
    l.cost ≡ pos (routes_cost (instance_of l.cvrp) (map (λ r. r.items) (take l.route-index l.routes)))
