-- The tours that a watcher is shown are tours.
use Rattle.std.proofs.Common.{ℕ, ◌+◌, true, List, [], ◌∷◌, ◌++◌, refl, sym, subst}
use Rattle.std.specs.Prelude.{All}
use Rattle.std.proofs.lemmas.List.Elements.{All-append, All-cons, All-nil}
use Rattle.rand_core.specs.Stream.{Stream}
use Rattle.tk_near.specs.Near.{NearLists}
use Rattle.tk_tour.specs.Tour.{IsTour}
use Rattle.tk_search.specs.Searching.{Searching, trial}
use Rattle.tk_search.proofs.SearchTrials.Cities.{tour_after}
use Rattle.tk_solve.specs.Endings.{question}
use Rattle.tk_solve.specs.Events.{Event, Asked, Ended}
use Rattle.tk_solve.specs.Runs.{Run, Trials, untried, tried, IsRun, AreRuns, none, more, report_of, shown_of}
use Rattle.tk_solve.specs.Starts.{TourTask}
use Rattle.tk_solve.specs.Watching.{IsShownTour, trial_event}
use Rattle.tk_solve.proofs.Endings.{All-ends, All-question}
use Rattle.tk_solve.proofs.Watched.{run_of, shown_of_more}

trials_shown : (task : TourTask) (j : ℕ) {begun : Searching} {words : Stream} {t : ℕ} {shown : List Event}
    {ended : Searching} {rest : Stream} →
    Trials (trial_event task j) begun words t shown ended rest → IsTour task.size begun.best →
    All (IsShownTour task) shown
trials_shown task j untried tour = All-nil (IsShownTour task)
trials_shown task j (tried {t = t} {shown = shown} before step) tour =
    All-append (IsShownTour task) (shown ++ question Asked t true) _
    (All-append (IsShownTour task) shown (question Asked t true) (trials_shown task j before tour)
    (All-question Asked (IsShownTour task) t true tt))
    (All-cons (IsShownTour task) _ [] (tour_after task.size (trial (run_of before) step) tour, refl)
    (All-nil (IsShownTour task)))

run_shown : (task : TourTask) (near : NearLists) (j : ℕ) (run : Run) → IsRun task near j run →
    All (IsShownTour task) run.shown
run_shown task near j run is =
    let begun : IsTour task.size is.searched.begun.best =
    subst (IsTour task.size) (sym is.searched.begins.best) is.tour in
    let end : Event = Ended (j + 1) (report_of task.distance run) in
    let searched = is.searched in
    let tried : All (IsShownTour task) (searched.tried ++ searched.stop) =
    All-append (IsShownTour task) searched.tried searched.stop (trials_shown task j searched.trials begun)
    (All-ends Asked (IsShownTour task) searched.ends tt) in
    subst (All (IsShownTour task)) (sym is.shown)
    (All-append (IsShownTour task) (question Asked j true) (is.tried ++ end ∷ [])
    (All-question Asked (IsShownTour task) j true tt)
    (All-append (IsShownTour task) is.tried (end ∷ []) (subst (All (IsShownTour task)) (sym searched.shown_is) tried)
    (All-cons (IsShownTour task) end [] tt (All-nil (IsShownTour task)))))

pub runs_shown : (task : TourTask) (near : NearLists) {runs : List Run} → AreRuns task near runs →
    All (IsShownTour task) (shown_of runs)
runs_shown task near none = All-nil (IsShownTour task)
runs_shown task near (more {runs} {run} before is) =
    subst (All (IsShownTour task)) (sym (shown_of_more runs run))
    (All-append (IsShownTour task) (shown_of runs) run.shown (runs_shown task near before)
    (run_shown task near _ run is))
