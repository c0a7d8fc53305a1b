-- Laws of runs. The functions of `src/laws.rt` have them as their contracts.
use Rattle.std.specs.Prelude.{◌≡◌, ℕ, All, List, ◌++◌, length}
use Rattle.tk_ring_search.specs.Given.{Given}
use Rattle.tk_solve.specs.Endings.{EndsAfter}
use Rattle.tk_route_search.specs.Events.{Event, Asked}
use Rattle.tk_route_search.specs.Runs.{Run, AreRuns, shown_of}
use Rattle.tk_route_search.specs.Tasks.{RouteTask, runs_of}
use Rattle.tk_route_search.specs.Watching.{GoesOn, IsUnobserved, WereShown}
use Rattle.tk_route_search.specs.declared.watch.NoObserver.{NoObserver}

-- if the observer never says no, all runs are made, and each makes all its trials
abbrev pub UnendedSearchesAreWhole : Type 0
UnendedSearchesAreWhole =
    (task : RouteTask) (given : Given) (ring : List ℕ) (runs : List Run) (stop : List Event) →
    AreRuns task given ring runs → EndsAfter Asked (runs_of task) (length runs) stop →
    All GoesOn (shown_of runs ++ stop) → (length runs ≡ runs_of task) × All (λ run. run.trials ≡ task.trials) runs

-- an observer that does nothing never says no
abbrev pub NoObserverEndsNoSearch : Type 0
NoObserverEndsNoSearch =
    (old new : NoObserver) (shown : List Event) → WereShown IsUnobserved old new shown → All GoesOn shown
