use Rattle.std.proofs.Common.{◌≡◌, take}
use Rattle.tk_lists.specs.Solution.{lists_of}
use Rattle.tk_routes.specs.RouteVerdicts.{filled_of}
use Rattle.tk_route_search.proofs.start.filled.Given as goal

abbrev pub invariant-loop-route : goal.invariant-loop-route
invariant-loop-route l = lists_of l.copies.items ≡ filled_of (lists_of (take l.route-index l.routes))
