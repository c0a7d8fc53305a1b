-- What is kept of the runs so far, when one more comes.
use Rattle.std.proofs.Common.{◌≡◌, ℕ, pos, ◌+◌, ◌<◌, ◌≤◌, true, ⊎_elim, List, [], ◌∷◌, ◌++◌, length, refl, sym, ap}
use Rattle.std.proofs.Common.{◌∙◌, subst, arith}
use Rattle.std.proofs.lemmas.Bool.{cases_lt}
use Rattle.std.proofs.lemmas.Int.{ints}
use Rattle.std.proofs.lemmas.List.{map-append}
use Rattle.tk_routes.specs.Instance.{customer_count}
use Rattle.tk_search.specs.SearchLaws.{IsFirstShortest}
use Rattle.tk_solve.proofs.FirstShortest.{first_of_one, first_replaced, first_kept}
use Rattle.tk_tour.specs.Tour.{tour_length}
use Rattle.tk_ring_search.specs.Given.{Given}
use Rattle.tk_ring_search.specs.Searching.{RingSearching}
use Rattle.tk_route_search.specs.declared.outcome.Outcome.{Outcome}
use Rattle.tk_solve.specs.Endings.{question}
use Rattle.tk_route_search.specs.Events.{Event, Asked, Ended}
use Rattle.tk_route_search.specs.Outcomes.{AreKept, IsRunAdded, IsTaken}
use Rattle.tk_route_search.specs.Runs.{Run, IsRun, IsSearched, none, more, best_rings, report_of}
use Rattle.tk_route_search.specs.Tasks.{RouteTask, IsRing}
use Rattle.tk_ring_search.proofs.TrialRuns.{given_run}
use Rattle.tk_route_search.proofs.Watched.{run_of}

-- no run
pub kept_none : (task : RouteTask) (given : Given) (ring : List ℕ) (kept : Outcome) →
    IsRing task.instance (length ring) ring →
    kept.reports.items ≡ [] → kept.ring.items ≡ ring → kept.cost ≡ pos (tour_length given.distance ring) →
    kept.start ≡ pos (tour_length given.distance ring) → AreKept task given ring [] kept
kept_none task given ring kept stands reports same cost start = record {
  are = none;
  reports = reports;
  first = subst (IsFirstShortest given.distance (ring ∷ [])) (sym same) (first_of_one given.distance ring);
  stands = subst (IsRing task.instance (length ring)) (sym same) stands;
  cost = cost ∙ ap (λ v. pos (tour_length given.distance v)) (sym same);
  start = start;
}

-- the ring that is kept, after one more run
record IsFirst (task : RouteTask) (given : Given) (ring : List ℕ) (runs : List Run) (kept : Outcome) : Type 0 where
  first : IsFirstShortest given.distance (ring ∷ best_rings runs) kept.ring.items
  stands : IsRing task.instance (length ring) kept.ring.items
  cost : kept.cost ≡ pos (tour_length given.distance kept.ring.items)

first_more : (task : RouteTask) (given : Given) (ring : List ℕ) (runs : List Run) (run : Run) (k : ℕ)
    (old new : Outcome) →
    AreKept task given ring runs old → run.ended.given ≡ given → IsRing task.instance (length ring) run.ended.best →
    IsTaken k run.ended old new → IsFirst task given ring (runs ++ run ∷ []) new
first_more task given ring runs run k old new kept same stands taken =
    let dist = given.distance in
    let best : List ℕ = run.ended.best in
    let rings : best_rings (runs ++ run ∷ []) ≡ best_rings runs ++ best ∷ [] =
    map-append (λ (v : Run). v.ended.best) runs (run ∷ []) in
    let long : pos (tour_length run.ended.given.distance best) ≡ pos (tour_length dist best) =
    ap (λ (g : Given). pos (tour_length g.distance best)) same in
    let P : List ℕ → Type 0 = λ v. IsFirstShortest dist (ring ∷ best_rings (runs ++ run ∷ [])) v in
    let replaced : tour_length dist best < tour_length dist old.ring.items →
    IsFirst task given ring (runs ++ run ∷ []) new = λ lt.
    let is = taken.shorter (omega (arith, ints, lt, kept.cost, long)) in
    record {
      first = subst P (sym is.0)
          (subst (λ v. IsFirstShortest dist (ring ∷ v) best) (sym rings)
          (first_replaced dist (ring ∷ best_rings runs) old.ring.items best kept.first lt));
      stands = subst (IsRing task.instance (length ring)) (sym is.0) stands;
      cost = is.1 ∙ long ∙ ap (λ v. pos (tour_length dist v)) (sym is.0);
    } in
    let stays : tour_length dist old.ring.items ≤ tour_length dist best →
    IsFirst task given ring (runs ++ run ∷ []) new = λ le.
    let is = taken.kept (omega (arith, ints, le, kept.cost, long)) in
    record {
      first = subst P (sym is.0)
          (subst (λ v. IsFirstShortest dist (ring ∷ v) old.ring.items) (sym rings)
          (first_kept dist (ring ∷ best_rings runs) old.ring.items best kept.first le));
      stands = subst (IsRing task.instance (length ring)) (sym is.0) kept.stands;
      cost = is.1 ∙ kept.cost ∙ ap (λ v. pos (tour_length dist v)) (sym is.0);
    } in
    ⊎_elim replaced stays (cases_lt (tour_length dist best) (tour_length dist old.ring.items))

-- one more run
pub run_added : (task : RouteTask) (given : Given) (ring : List ℕ) (j : ℕ) (tried : List Event)
    (ended : RingSearching) →
    IsSearched task given ring j tried ended → IsRing task.instance (length ring) ended.best →
    (Watched : List Event → Type 0) →
    Watched (tried ++ Ended (j + 1) (report_of (customer_count task.instance) ended) ∷ []) →
    (old new : Outcome) → IsTaken (customer_count task.instance) ended old new →
    IsRunAdded task given ring j Watched old new
run_added task given ring j tried ended searched stands Watched watched old new taken runs count kept =
    let k = customer_count task.instance in
    let after : List Event = tried ++ Ended (j + 1) (report_of k ended) ∷ [] in
    let run : Run =
    record { trials = searched.made.count; ended = ended; shown = question Asked j true ++ after } in
    let is : IsRun task given ring j run = record { tried = tried; searched = searched; trials = refl; shown = refl } in
    let same : ended.given ≡ given = given_run (run_of searched.made.trials) ∙ searched.begins.given_is in
    let first = first_more task given ring runs run k old new kept same stands taken in (
      run,
      (
        record {
          are = more kept.are (subst (λ v. IsRun task given ring v run) (sym count) is);
          reports = taken.reports ∙ ap (λ v. v ++ report_of k ended ∷ []) kept.reports
              ∙ sym (map-append (λ (r : Run). report_of k r.ended) runs (run ∷ []));
          first = first.first;
          stands = first.stands;
          cost = first.cost;
          start = taken.start ∙ kept.start;
        },
        (after, (refl, watched)),
      ),
    )
