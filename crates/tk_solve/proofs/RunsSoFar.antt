-- What is kept of the runs so far, when one more comes.
use Rattle.std.proofs.Common.{◌≡◌, ◌≢◌, ℕ, ℤ, pos, ◌+◌, ◌<◌, ◌≤◌, true, ⊎_elim, List, [], ◌∷◌, ◌++◌, length, refl, sym}
use Rattle.std.proofs.Common.{ap, ◌∙◌, subst, arith}
use Rattle.std.specs.Prelude.{◌<ℤ◌, ◌≤ℤ◌}
use Rattle.std.proofs.lemmas.Bool.{cases_lt}
use Rattle.std.proofs.lemmas.Int.{ints}
use Rattle.std.proofs.lemmas.List.{map-append}
use Rattle.tk_near.specs.Near.{NearLists}
use Rattle.tk_tour.specs.Tour.{IsTour, tour_length}
use Rattle.tk_search.specs.SearchLaws.{IsFirstShortest}
use Rattle.tk_search.specs.Searching.{Searching}
use Rattle.tk_search.proofs.SearchTrials.Cities.{tour_after}
use Rattle.tk_solve.specs.declared.outcome.Outcome.{Outcome}
use Rattle.tk_solve.specs.declared.outcome.RunReport.{RunReport}
use Rattle.tk_solve.specs.Endings.{question}
use Rattle.tk_solve.specs.Events.{Event, Asked, Ended}
use Rattle.tk_solve.specs.Outcomes.{IsRunAdded, IsTaken}
use Rattle.tk_solve.specs.Runs.{Run, IsRun, IsSearched, none, more, AreSoFar, best_tours, run_length, report_of}
use Rattle.tk_solve.specs.Starts.{TourTask, IsStart}
use Rattle.tk_solve.proofs.FirstShortest.{first_of_one, first_replaced, first_kept}
use Rattle.tk_solve.proofs.Watched.{run_of}

-- no run
pub so_far_none : (task : TourTask) (near : NearLists) (cities : List ℕ) (shortest : ℤ) →
    AreSoFar task near [] [] cities shortest
so_far_none task near cities shortest =
    record {
      are = none;
      reports_are = refl;
      first = λ lt. absurd (omega (arith, lt));
      tour = λ lt. absurd (omega (arith, lt));
      shortest_is = λ lt. absurd (omega (arith, lt));
    }

-- what became of the tour that is kept
pub record IsNoted (task : TourTask) (run : Run) (reports : List RunReport) (cities : List ℕ) (shortest : ℤ)
    (cities' : List ℕ) (shortest' : ℤ) : Type 0 where
  pub first : reports ≡ [] → (cities' ≡ run.best) × (shortest' ≡ pos (run_length task.distance run))
  pub shorter : pos (run_length task.distance run) <ℤ shortest →
      (cities' ≡ run.best) × (shortest' ≡ pos (run_length task.distance run))
  pub kept : reports ≢ [] → shortest ≤ℤ pos (run_length task.distance run) → (cities' ≡ cities) × (shortest' ≡ shortest)

module _ (task : TourTask) (near : NearLists) (reports : List RunReport) (cities : List ℕ) (shortest : ℤ) (run : Run)
    (known : IsTour task.size run.best) (cities' : List ℕ) (shortest' : ℤ)
    (noted : IsNoted task run reports cities shortest cities' shortest') where
  first_at : (runs : List Run) → AreSoFar task near runs reports cities shortest →
      IsFirstShortest task.distance (best_tours (runs ++ run ∷ [])) cities'
      × (IsTour task.size cities' × (shortest' ≡ pos (tour_length task.distance cities')))
  first_at [] so_far =
      let is = noted.first so_far.reports_are in
      let shown : IsFirstShortest task.distance (run.best ∷ []) cities'
      × (IsTour task.size cities' × (shortest' ≡ pos (tour_length task.distance cities'))) = (
        subst (IsFirstShortest task.distance (run.best ∷ [])) (sym is.0) (first_of_one task.distance run.best),
        (subst (IsTour task.size) (sym is.0) known, is.1 ∙ ap (λ v. pos (tour_length task.distance v)) (sym is.0)),
      ) in
      shown
  first_at (r ∷ rs) so_far =
      let runs : List Run = r ∷ rs in
      let before = so_far.first (omega (arith)) in
      let at = so_far.shortest_is (omega (arith)) in
      let some : reports ≢ [] = λ e. absurd (grind (arith, e, so_far.reports_are)) in
      let tours : best_tours (runs ++ run ∷ []) ≡ best_tours runs ++ run.best ∷ [] =
      map-append (λ (v : Run). v.best) runs (run ∷ []) in
      let P : List (List ℕ) → Type 0 = λ v. IsFirstShortest task.distance v cities' in
      let Shown : Type 0 = IsFirstShortest task.distance (best_tours (runs ++ run ∷ [])) cities'
      × (IsTour task.size cities' × (shortest' ≡ pos (tour_length task.distance cities'))) in
      let replaced : run_length task.distance run < tour_length task.distance cities → Shown = λ lt.
      let is = noted.shorter (omega (arith, ints, lt, at)) in (
        subst P (sym tours) (subst (IsFirstShortest task.distance (best_tours runs ++ run.best ∷ [])) (sym is.0)
            (first_replaced task.distance (best_tours runs) cities run.best before lt)),
        (subst (IsTour task.size) (sym is.0) known, is.1 ∙ ap (λ v. pos (tour_length task.distance v)) (sym is.0)),
      ) in
      let kept : tour_length task.distance cities ≤ run_length task.distance run → Shown = λ le.
      let is = noted.kept some (omega (arith, ints, le, at)) in (
        subst P (sym tours) (subst (IsFirstShortest task.distance (best_tours runs ++ run.best ∷ [])) (sym is.0)
            (first_kept task.distance (best_tours runs) cities run.best before le)),
        (
          subst (IsTour task.size) (sym is.0) (so_far.tour (omega (arith))),
          is.1 ∙ at
              ∙ ap (λ v. pos (tour_length task.distance v)) (sym is.0),
        ),
      ) in
      ⊎_elim replaced kept (cases_lt (run_length task.distance run) (tour_length task.distance cities))

-- one more run
pub so_far_more : (task : TourTask) (near : NearLists) (runs : List Run) (reports : List RunReport) (cities : List ℕ)
    (shortest : ℤ) →
    AreSoFar task near runs reports cities shortest → (run : Run) → IsRun task near (length runs) run →
    IsTour task.size run.best → (cities' : List ℕ) (shortest' : ℤ) →
    IsNoted task run reports cities shortest cities' shortest' →
    AreSoFar task near (runs ++ run ∷ []) (reports ++ report_of task.distance run ∷ []) cities' shortest'
so_far_more task near runs reports cities shortest so_far run is known cities' shortest' noted =
    let at = first_at task near reports cities shortest run known cities' shortest' noted runs so_far in
    record {
      are = more so_far.are is;
      reports_are = ap (λ v. v ++ report_of task.distance run ∷ []) so_far.reports_are
          ∙ sym (map-append (report_of task.distance) runs (run ∷ []));
      first = λ _. at.0;
      tour = λ _. at.1.0;
      shortest_is = λ _. at.1.1;
    }

-- the best tour of a search from a tour is one
pub ended_tour : (task : TourTask) (near : NearLists) (j : ℕ) (start : List ℕ) (tried : List Event)
    (ended : Searching) → IsSearched task near j start tried ended →
    IsTour task.size start → IsTour task.size ended.best
ended_tour task near j start tried ended searched tour =
    tour_after task.size (run_of searched.trials) (subst (IsTour task.size) (sym searched.begins.best) tour)

-- one more run
pub run_added : (task : TourTask) (near : NearLists) (j : ℕ) (start : List ℕ) (tried : List Event) (ended : Searching) →
    IsStart task near j start →
    IsSearched task near j start tried ended → IsTour task.size start → (Watched : List Event → Type 0) →
    Watched (tried
    ++ Ended (j + 1) (record { best = pos (tour_length task.distance ended.best); totals = ended.totals }) ∷ []) →
    (old new : Outcome) →
    IsTaken task.distance ended old new → IsRunAdded task near j Watched old new
run_added task near j start tried ended begins searched tour Watched watched old new taken runs count kept =
    let after : List Event =
    tried ++ Ended (j + 1) (record { best = pos (tour_length task.distance ended.best); totals = ended.totals }) ∷ [] in
    let run : Run =
    record {
      start = start;
      trials = searched.made;
      best = ended.best;
      totals = ended.totals;
      shown = question Asked j true ++ after;
    } in
    let is : IsRun task near j run =
    record {
      start = begins;
      tour = tour;
      tried = tried;
      ended = ended;
      searched = searched;
      trials = refl;
      best = refl;
      totals = refl;
      shown = refl;
    } in
    let at : IsRun task near (length runs) run = subst (λ k. IsRun task near k run) (sym count) is in
    let noted : IsNoted task run old.reports.items old.cities.items old.shortest new.cities.items
    new.shortest = record {
      first = taken.first;
      shorter = taken.shorter;
      kept = λ some le. let same = taken.kept some le in (ap (λ v. v.items) same.0, same.1);
    } in
    let more = so_far_more task near runs old.reports.items old.cities.items old.shortest kept run at
    (ended_tour task near j start tried ended searched tour) new.cities.items new.shortest noted in (
      run,
      (
        subst (λ v. AreSoFar task near (runs ++ run ∷ []) v new.cities.items new.shortest) (sym taken.reports)
            more,
        (after, (refl, watched)),
      ),
    )
