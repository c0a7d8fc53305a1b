use Rattle.std.proofs.Common.{ap}
use Rattle.tk_params.specs.SearchOf.{search_is}
use Rattle.tk_routes.specs.Cvrps.{instance_of}
use Rattle.tk_route_search.specs.Tasks.{RouteTask}
use Rattle.tk_route_search.specs.Watching.{WereShown, nothing, next}
use Rattle.tk_route_search.proofs.Watched.{shown_both}
use Rattle.tk_engines.specs.Between.{solution_in}
use Rattle.tk_engines.proofs.BetweenEnds.{IfOk-found, start_given}
use Rattle.tk_engines.proofs.engines.between.find_routes.Goals as goal

pub search_routes-requires : goal.search_routes-requires
search_routes-requires g c = record {
  given = start_given (instance_of c.args.cvrp.now) c.search_options-options.result.start
      (solution_in c.args.initial.now) (ap (λ (t : RouteTask). t.start) c.search_options-options.ensures) c.requires;
}

pub returns : goal.returns
returns g c =
    let begun = next nothing c.begin.ensures in
    IfOk-found c.search_routes.result (search_is c.args.settings.now) c.args.name.now (instance_of c.args.cvrp.now)
    (solution_in c.args.initial.now) _ (WereShown g.V.RouteWatch.shows c.begin.new.self c.search_routes.new.watch)
    (WereShown g.V.RouteWatch.shows c.args.watch.now c.search_routes.new.watch) c.search_options-options.ensures
    (λ shown is. shown_both begun is) c.search_routes.ensures.solved c.search_routes.ensures.sound
