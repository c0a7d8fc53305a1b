use Rattle.std.proofs.Common.{◌+◌, ℕ, ℤ, List, pos}
use Rattle.rand_core.specs.Steps.{stream_of, steps_u32}
use Rattle.rand_pcg.specs.Pcg.{pcg32}
use Rattle.tk_tour.specs.Tour.{tour_length}
use Rattle.tk_search.specs.SearchOf.{search_of}
use Rattle.tk_search.specs.Searching.{Searching}
use Rattle.tk_solve.specs.Events.{Event, Tried}
use Rattle.tk_solve.specs.Runs.{Trials, words_of}
use Rattle.tk_solve.specs.Watching.{WereShown}
use Rattle.tk_solve.proofs.search.search_run.Given as goal

abbrev pub invariant-loop-trial : goal.invariant-loop-trial
invariant-loop-trial g l =
    let reported : ℕ → ℤ → Searching → Event = λ t length search.
    Tried (record {
      run = l.fn.j + 1;
      runs = l.fn.options.runs;
      trial = t + 1;
      trials = l.trials;
      length = length;
      best = pos (tour_length (g.M.Metric.distance l.fn.metric) search.best);
    }) search.best in
    (shown : List Event) × (
    Trials reported (search_of l.initial.search) (words_of (l.fn.options.seed + l.fn.j)) l.trial shown
    (search_of l.search)
    (stream_of (steps_u32 pcg32) l.generator)
    × WereShown g.W.Watch.shows l.initial.watch l.watch shown
    )
