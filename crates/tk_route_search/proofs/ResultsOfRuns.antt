-- What follows for what is kept of the runs, whatever they were.
use Rattle.std.proofs.Common.{◌≡◌, ℕ, ◌≤◌, List, [], ◌∷◌, length, sym, ap, ◌∙◌, subst, arith}
use Rattle.std.specs.Prelude.{◌≤ℤ◌, All}
use Rattle.std.specs.Int.RustNames.{unsigned_abs}
use Rattle.std.proofs.lemmas.Int.{ints}
use Rattle.std.proofs.lemmas.List.{get_or-map, length-map}
use Rattle.std.proofs.lemmas.List.Elements.{All-append, All-cons, All-map, All-nil}
use Rattle.tk_routes.proofs.CutLists.{All-back}
use Rattle.tk_routes.specs.Instance.{customer_count}
use Rattle.tk_search.specs.SearchLaws.{IsFirstShortest}
use Rattle.tk_tour.specs.Tour.{tour_length}
use Rattle.tk_ring_search.specs.Given.{Given}
use Rattle.tk_ring_search.specs.Totals.{IsBounded}
use Rattle.tk_ring_search.proofs.BoundedRuns.{bounded_run}
use Rattle.tk_ring_search.proofs.TrialRuns.{given_run}
use Rattle.tk_route_search.specs.declared.outcome.Outcome.{Outcome}
use Rattle.tk_route_search.specs.declared.outcome.RouteRun.{RouteRun}
use Rattle.tk_route_search.specs.Outcomes.{AreKept}
use Rattle.tk_route_search.specs.Runs.{Run, IsRun, AreRuns, none, more, best_rings, report_of}
use Rattle.tk_route_search.specs.Tasks.{RouteTask}
use Rattle.tk_route_search.proofs.RunFacts.{start_after}
use Rattle.tk_route_search.proofs.Watched.{run_of}

-- the first of the shortest is as short as each
least_of : (dist : ℕ → ℕ → ℕ) (rings : List (List ℕ)) (winner : List ℕ) → IsFirstShortest dist rings winner →
    All (λ ring. tour_length dist winner ≤ tour_length dist ring) rings
least_of dist rings winner f =
    let Least : List ℕ → Type 0 = λ v. tour_length dist winner ≤ tour_length dist v in
    let front : All Least f.before = λ k d lt. omega (arith, f.longer k d lt) in
    let own : Least winner = omega arith in
    subst (All Least) (sym f.stands)
    (All-append Least f.before (winner ∷ f.behind) front (All-cons Least winner f.behind own f.least))

-- the report of a run
pub record IsSoundRun (given : Given) (n : ℕ) (kept : Outcome) (r : RouteRun) : Type 0 where
  pub least : kept.cost ≤ℤ r.best
  pub start : r.totals.start ≡ kept.start
  pub bounded : IsBounded given n (unsigned_abs r.best) r.totals

module _ (task : RouteTask) (given : Given) (ring : List ℕ) where
  -- each of the runs is one
  each_run : {runs : List Run} → AreRuns task given ring runs → All (λ run. (j : ℕ) × IsRun task given ring j run) runs
  each_run none = All-nil _
  each_run (more {runs} {run} before is) =
      All-append (λ v. (j : ℕ) × IsRun task given ring j v) runs (run ∷ []) (each_run before)
      (All-cons (λ v. (j : ℕ) × IsRun task given ring j v) run [] (_, is) (All-nil _))

  sound_run : (runs : List Run) (kept : Outcome) → AreKept task given ring runs kept → (run : Run) (j : ℕ) →
      IsRun task given ring j run →
      tour_length given.distance kept.ring.items ≤ tour_length given.distance run.ended.best →
      IsSoundRun given (length ring) kept (report_of (customer_count task.instance) run.ended)
  sound_run runs kept are run j is least =
      let same : run.ended.given ≡ given = given_run (run_of is.searched.made.trials) ∙ is.searched.begins.given_is in
      let long : tour_length run.ended.given.distance run.ended.best ≡ tour_length given.distance run.ended.best =
      ap (λ (g : Given). tour_length g.distance run.ended.best) same in
      record {
        least = omega (arith, ints, are.cost, least, long);
        start = start_after (run_of is.searched.made.trials) ∙ is.searched.begins.start_is ∙ sym are.start;
        bounded = subst (λ cost. IsBounded given (length ring) cost run.ended.totals) (sym long)
            (bounded_run given ring is.searched.begins (run_of is.searched.made.trials));
      }

  -- what is kept is not dearer than the start
  pub kept_cheaper : (runs : List Run) (kept : Outcome) → AreKept task given ring runs kept → kept.cost ≤ℤ kept.start
  kept_cheaper runs kept are =
      let least = least_of given.distance (ring ∷ best_rings runs) kept.ring.items are.first 0 [] (omega arith) in
      omega (arith, ints, are.cost, are.start, least)

  -- the reports
  pub reports_sound : (runs : List Run) (kept : Outcome) → AreKept task given ring runs kept →
      All (IsSoundRun given (length ring) kept) kept.reports.items
  reports_sound runs kept are =
      let k = customer_count task.instance in
      let least = least_of given.distance (ring ∷ best_rings runs) kept.ring.items are.first in
      let behind = All-back (λ v. tour_length given.distance kept.ring.items ≤ tour_length given.distance v)
      (ring ∷ []) (best_rings runs) least in
      let each = each_run are.are in
      let runs_sound : All (λ run. IsSoundRun given (length ring) kept (report_of k run.ended)) runs = λ i d lt.
      let is = each i d lt in
      sound_run runs kept are _ is.0 is.1
      (subst (λ v. tour_length given.distance kept.ring.items ≤ tour_length given.distance v)
      (get_or-map (λ (v : Run). v.ended.best) runs i d d.ended.best lt)
      (behind i d.ended.best (omega (arith, lt, length-map runs (λ (v : Run). v.ended.best))))) in
      subst (All (IsSoundRun given (length ring) kept)) (sym are.reports)
      (All-map (IsSoundRun given (length ring) kept) (λ (v : Run). report_of k v.ended) runs runs_sound)
