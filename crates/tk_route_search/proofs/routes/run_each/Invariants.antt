use Rattle.std.proofs.Common.{◌≡◌, List, length}
use Rattle.tk_routes.specs.Cvrps.{instance_of}
use Rattle.tk_route_search.specs.Outcomes.{AreKept}
use Rattle.tk_route_search.specs.Runs.{Run, shown_of}
use Rattle.tk_route_search.specs.Tasks.{copies_in, given_for, task_of}
use Rattle.tk_route_search.specs.Watching.{WereShown}
use Rattle.tk_route_search.proofs.routes.run_each.Given as goal

abbrev pub invariant-loop-j : goal.invariant-loop-j
invariant-loop-j g l =
    (runs : List Run) × (length runs ≡ l.j)
    × (AreKept (task_of l.fn.cvrp l.fn.options)
    (given_for (task_of l.fn.cvrp l.fn.options) (copies_in (instance_of l.fn.cvrp) l.fn.ring) l.fn.near) l.fn.ring runs
    l.outcome × WereShown g.W.RouteWatch.shows l.fn.watch l.watch (shown_of runs))
