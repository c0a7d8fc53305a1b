-- Searches whose observer never says no.
use Rattle.std.proofs.Common.{◌≡◌, ℕ, ◌+◌, true, false, List, [], ◌∷◌, ◌++◌, length, ◌∙◌, subst}
use Rattle.std.specs.Prelude.{All}
use Rattle.std.proofs.lemmas.List.Elements.{All-append, All-cons, All-nil}
use Rattle.tk_near.specs.Near.{NearLists}
use Rattle.tk_routes.proofs.CutLists.{All-back, All-front}
use Rattle.tk_solve.specs.Endings.{EndsAfter, question}
use Rattle.tk_solve.specs.Events.{Event, Asked, Ended}
use Rattle.tk_solve.specs.Runs.{Run, IsRun, AreRuns, none, more, report_of, shown_of}
use Rattle.tk_solve.specs.Starts.{TourTask, trials_of}
use Rattle.tk_solve.specs.Watching.{GoesOn, IsUnobserved, WereShown, nothing, next}
use Rattle.tk_solve.proofs.Endings.{ends_unended}
use Rattle.tk_solve.proofs.Watched.{shown_of_more}

-- no is not yes
no_goes_on : GoesOn (Asked false) → ⊥
no_goes_on h = cc h

-- a run whose observer never said no made all its trials
run_unended : (task : TourTask) (near : NearLists) (j : ℕ) (run : Run) → IsRun task near j run → All GoesOn run.shown →
    run.trials ≡ trials_of task
run_unended task near j run is on =
    let end : List Event = Ended (j + 1) (report_of task.distance run) ∷ [] in
    let own : All GoesOn (question Asked j true ++ (is.tried ++ end)) = subst (All GoesOn) is.shown on in
    let tried : All GoesOn is.tried = All-front GoesOn is.tried end
    (All-back GoesOn (question Asked j true) (is.tried ++ end) own) in
    let stop : All GoesOn is.searched.stop = All-back GoesOn is.searched.tried is.searched.stop
    (subst (All GoesOn) is.searched.shown_is tried) in
    is.trials ∙ ends_unended Asked GoesOn no_goes_on is.searched.ends stop

-- and so did each of several
pub runs_unended : (task : TourTask) (near : NearLists) {runs : List Run} → AreRuns task near runs →
    All GoesOn (shown_of runs) → All (λ run. run.trials ≡ trials_of task) runs
runs_unended task near none on = All-nil _
runs_unended task near (more {runs} {run} before is) on =
    let both : All GoesOn (shown_of runs ++ run.shown) = subst (All GoesOn) (shown_of_more runs run) on in
    All-append (λ (r : Run). r.trials ≡ trials_of task) runs (run ∷ [])
    (runs_unended task near before (All-front GoesOn (shown_of runs) run.shown both))
    (All-cons (λ (r : Run). r.trials ≡ trials_of task) run []
    (run_unended task near _ run is (All-back GoesOn (shown_of runs) run.shown both)) (All-nil _))

-- all runs were made
pub search_unended : (task : TourTask) (runs : List Run) (stop : List Event) →
    EndsAfter Asked task.runs (length runs) stop → All GoesOn (shown_of runs ++ stop) → length runs ≡ task.runs
search_unended task runs stop ends on =
    ends_unended Asked GoesOn no_goes_on ends (All-back GoesOn (shown_of runs) stop on)

-- an observer that does nothing never says no
pub unobserved_on : {W : Type 0} {old new : W} {shown : List Event} → WereShown IsUnobserved old new shown →
    All GoesOn shown
unobserved_on nothing = All-nil GoesOn
unobserved_on (next {shown} {event} before is) =
    All-append GoesOn shown (event ∷ []) (unobserved_on before) (All-cons GoesOn event [] is.1 (All-nil GoesOn))
