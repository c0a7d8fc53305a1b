-- Laws of runs. The functions of `src/laws.rt` have them as their contracts.
use Rattle.std.specs.Prelude.{◌≡◌, All, List, ◌++◌, length}
use Rattle.tk_near.specs.Near.{NearLists}
use Rattle.tk_solve.specs.Endings.{EndsAfter}
use Rattle.tk_solve.specs.Events.{Event, Asked}
use Rattle.tk_solve.specs.Runs.{Run, AreRuns, shown_of}
use Rattle.tk_solve.specs.Starts.{TourTask, trials_of}
use Rattle.tk_solve.specs.Watching.{GoesOn, IsShownTour, IsUnobserved, WereShown}
use Rattle.tk_solve.specs.declared.watch.NoObserver.{NoObserver}

-- each tour that is shown is a tour of the cities, and its length is the one shown with it
abbrev pub ShownToursAreTours : Type 0
ShownToursAreTours =
    (task : TourTask) (near : NearLists) (runs : List Run) → AreRuns task near runs →
    All (IsShownTour task) (shown_of runs)

-- if the observer never says no, all runs are made, and each makes all its trials
abbrev pub UnendedSearchesAreWhole : Type 0
UnendedSearchesAreWhole =
    (task : TourTask) (near : NearLists) (runs : List Run) (stop : List Event) → AreRuns task near runs →
    EndsAfter Asked task.runs (length runs) stop → All GoesOn (shown_of runs ++ stop) →
    (length runs ≡ task.runs) × All (λ run. run.trials ≡ trials_of task) runs

-- an observer that does nothing never says no
abbrev pub NoObserverEndsNoSearch : Type 0
NoObserverEndsNoSearch =
    (old new : NoObserver) (shown : List Event) → WereShown IsUnobserved old new shown → All GoesOn shown
