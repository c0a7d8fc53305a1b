use Rattle.std.proofs.Common.{◌≡◌, ◌-◌, List, map, pos, take}
use Rattle.std.specs.List.{All}
use Rattle.tk_routes.specs.Cvrps.{instance_of}
use Rattle.tk_routes.specs.RouteLists.{routes_of}
use Rattle.tk_routes.specs.Routes.{AreRoutes, routes_cost}
use Rattle.tk_route_search.specs.Ladder.{IsFirstCheapest, IsSavings, Savings, ladder}
use Rattle.tk_route_search.specs.Rungs.{savings_of}
use Rattle.tk_route_search.proofs.ladder.cheapest.Given as goal

abbrev pub invariant-loop-k : goal.invariant-loop-k
invariant-loop-k l =
    let i = instance_of l.cvrp in
    (tried : List Savings) × (All (IsSavings i) tried
    × (map (λ (t : Savings). t.candidates) tried ≡ take l.k (ladder (i.size - 1)))
    × IsFirstCheapest i tried (savings_of l.best)
    × AreRoutes i (routes_of l.best.routes)
    × (l.best.cost ≡ pos (routes_cost i (routes_of l.best.routes))))
