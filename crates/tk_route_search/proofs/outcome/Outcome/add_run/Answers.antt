use Rattle.std.proofs.Common.{◌+◌, subst}
use Rattle.tk_ring_search.specs.Given.{given_of}
use Rattle.tk_ring_search.specs.SearchOf.{search_of}
use Rattle.tk_route_search.specs.declared.outcome.RouteRun.{RouteRun}
use Rattle.tk_route_search.specs.Events.{Ended}
use Rattle.tk_route_search.specs.Tasks.{RouteTask, task_of}
use Rattle.tk_route_search.specs.Watching.{WereShown, next}
use Rattle.tk_route_search.proofs.RunsSoFar.{run_added}
use Rattle.tk_route_search.proofs.outcome.Outcome.add_run.Goals as goal

pub returns : goal.returns
returns g c =
    let task : RouteTask = task_of c.args.cvrp.now c.args.options.now in
    let searched = c.in_ok-search.ensures.searched in
    let shown =
    subst (λ (r : RouteRun). g.W.RouteWatch.shows c.search_run.new.watch (Ended (c.args.j + 1) r) c.end_run.new.self)
    c.in_ok-report.ensures.report c.end_run.ensures in
    run_added task (given_of g.M.Metric c.args.terms) c.args.ring.now c.args.j searched.0
    (search_of c.in_ok-search.search) searched.1.0 c.in_ok-search.ensures.ring
    (WereShown g.W.RouteWatch.shows c.args.watch.now c.end_run.new.self) (next searched.1.1 shown)
    c.args.self.now c.take.new.self c.in_ok-report.ensures.taken
