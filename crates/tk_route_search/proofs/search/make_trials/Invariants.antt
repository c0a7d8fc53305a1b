use Rattle.std.proofs.Common.{◌+◌, List}
use Rattle.rand_core.specs.Steps.{stream_of, steps_u32}
use Rattle.rand_pcg.specs.Pcg.{pcg32}
use Rattle.tk_ring_search.specs.SearchOf.{search_of}
use Rattle.tk_solve.specs.Runs.{words_of}
use Rattle.tk_route_search.specs.Events.{Event}
use Rattle.tk_route_search.specs.Runs.{Trials}
use Rattle.tk_route_search.specs.Tasks.{task_of}
use Rattle.tk_route_search.specs.Watching.{WereShown}
use Rattle.tk_route_search.proofs.search.make_trials.Given as goal

abbrev pub invariant-loop-trial : goal.invariant-loop-trial
invariant-loop-trial g l =
    (shown : List Event) × (
    Trials (task_of l.fn.cvrp l.fn.options) l.fn.j (search_of l.fn.search) (words_of (l.fn.options.seed + l.fn.j))
    l.trial shown (search_of l.search) (stream_of (steps_u32 pcg32) l.generator)
    × WereShown g.W.RouteWatch.shows l.fn.watch l.watch shown
    )
