-- Searches whose observer never says no.
use Rattle.std.proofs.Common.{◌≡◌, ℕ, ◌+◌, true, false, List, [], ◌∷◌, ◌++◌, length, subst, arith}
use Rattle.std.specs.Prelude.{All}
use Rattle.std.proofs.lemmas.List.Elements.{All-append, All-cons, All-nil}
use Rattle.tk_ring_search.specs.Given.{Given}
use Rattle.tk_routes.proofs.CutLists.{All-back, All-front}
use Rattle.tk_solve.specs.Endings.{EndsAfter, question}
use Rattle.tk_routes.specs.Instance.{customer_count}
use Rattle.tk_route_search.specs.Events.{Event, Asked, Ended}
use Rattle.tk_route_search.specs.Runs.{Run, IsRun, AreRuns, none, more, report_of, shown_of}
use Rattle.tk_route_search.specs.Tasks.{RouteTask, runs_of}
use Rattle.tk_route_search.specs.Watching.{GoesOn, IsUnobserved, WereShown, nothing, next}
use Rattle.tk_solve.proofs.Endings.{ends_unended}
use Rattle.tk_route_search.proofs.Watched.{shown_of_more}

-- no is not yes
no_goes_on : GoesOn (Asked false) → ⊥
no_goes_on h = cc h

-- a run whose observer never said no made all its trials
run_unended : (task : RouteTask) (given : Given) (ring : List ℕ) (j : ℕ) (run : Run) →
    IsRun task given ring j run → All GoesOn run.shown → run.trials ≡ task.trials
run_unended task given ring j run is on =
    let end : List Event = Ended (j + 1) (report_of (customer_count task.instance) run.ended) ∷ [] in
    let own : All GoesOn (question Asked j true ++ (is.tried ++ end)) = subst (All GoesOn) is.shown on in
    let tried : All GoesOn is.tried = All-front GoesOn is.tried end
    (All-back GoesOn (question Asked j true) (is.tried ++ end) own) in
    let made = is.searched.made in
    let stop : All GoesOn made.stop = All-back GoesOn made.tried made.stop (subst (All GoesOn) made.shown_is tried) in
    omega (arith, is.trials, ends_unended Asked GoesOn no_goes_on made.ends stop)

-- and so did each of several
pub runs_unended : (task : RouteTask) (given : Given) (ring : List ℕ) {runs : List Run} → AreRuns task given ring runs →
    All GoesOn (shown_of runs) → All (λ run. run.trials ≡ task.trials) runs
runs_unended task given ring none on = All-nil _
runs_unended task given ring (more {runs} {run} before is) on =
    let both : All GoesOn (shown_of runs ++ run.shown) = subst (All GoesOn) (shown_of_more runs run) on in
    All-append (λ (r : Run). r.trials ≡ task.trials) runs (run ∷ [])
    (runs_unended task given ring before (All-front GoesOn (shown_of runs) run.shown both))
    (All-cons (λ (r : Run). r.trials ≡ task.trials) run []
    (run_unended task given ring _ run is (All-back GoesOn (shown_of runs) run.shown both)) (All-nil _))

-- all runs were made
pub search_unended : (task : RouteTask) (runs : List Run) (stop : List Event) →
    EndsAfter Asked (runs_of task) (length runs) stop → All GoesOn (shown_of runs ++ stop) → length runs ≡ runs_of task
search_unended task runs stop ends on =
    ends_unended Asked GoesOn no_goes_on ends (All-back GoesOn (shown_of runs) stop on)

-- an observer that does nothing never says no
pub unobserved_on : {W : Type 0} {old new : W} {shown : List Event} → WereShown IsUnobserved old new shown →
    All GoesOn shown
unobserved_on nothing = All-nil GoesOn
unobserved_on (next {shown} {event} before is) =
    All-append GoesOn shown (event ∷ []) (unobserved_on before) (All-cons GoesOn event [] is.1 (All-nil GoesOn))
