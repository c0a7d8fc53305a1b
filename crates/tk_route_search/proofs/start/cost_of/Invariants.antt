use Rattle.std.proofs.Common.{◌≡◌, pos, take}
use Rattle.tk_lists.specs.Solution.{lists_of}
use Rattle.tk_routes.specs.Cvrps.{instance_of}
use Rattle.tk_routes.specs.Routes.{routes_cost}
use Rattle.tk_route_search.proofs.start.cost_of.Given as goal

abbrev pub invariant-loop-route : goal.invariant-loop-route
invariant-loop-route l = l.cost ≡ pos (routes_cost (instance_of l.cvrp) (lists_of (take l.route-index l.routes)))
