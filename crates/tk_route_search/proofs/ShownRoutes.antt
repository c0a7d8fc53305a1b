-- The routes that an observer is shown are valid.
use Rattle.std.proofs.Common.{◌≡◌, ℕ, ℤ, pos, Bool, true, false, Option, Some, None, List, [], ◌∷◌, ◌++◌, length, sym}
use Rattle.std.proofs.Common.{ap}
use Rattle.std.proofs.Common.{◌∙◌}
use Rattle.std.proofs.Common.{subst, ◌+◌, ◌-◌}
use Rattle.std.specs.Prelude.{All}
use Rattle.std.proofs.lemmas.List.Elements.{All-append, All-cons, All-nil}
use Rattle.rand_core.specs.Stream.{Stream}
use Rattle.tk_rings.specs.RingRoutes.{ring_distance}
use Rattle.tk_rings.proofs.RoutesRead.{AreRoutes-read, cost_read}
use Rattle.tk_routes.specs.Instance.{Instance, customer_count}
use Rattle.tk_tour.specs.Tour.{tour_length}
use Rattle.tk_ring_search.specs.Given.{Given}
use Rattle.tk_ring_search.specs.Searching.{RingSearching, IsBegun, begin, trial}
use Rattle.tk_ring_search.specs.Totals.{is_better}
use Rattle.tk_ring_search.proofs.TrialRuns.{given_run}
use Rattle.tk_route_search.specs.declared.watch.RouteProgress.{RouteProgress}
use Rattle.tk_solve.specs.Endings.{question}
use Rattle.tk_solve.proofs.Endings.{All-ends, All-question}
use Rattle.tk_route_search.specs.Events.{Event, Asked, Tried, Ended}
use Rattle.tk_route_search.specs.Runs.{Run, Trials, descended, tried, IsRun, AreRuns, none, more, report_of, shown_of}
use Rattle.tk_route_search.specs.Tasks.{RouteTask, IsInput, IsRing, copies_in}
use Rattle.tk_route_search.specs.Watching.{AreShown, AreShownRoutes, trial_event}
use Rattle.tk_route_search.proofs.RunFacts.{best_stands, own_size}
use Rattle.tk_route_search.proofs.Watched.{run_of, shown_of_more}

-- the progress that is shown with a trial
abbrev progress_of : RouteTask → ℕ → ℕ → ℤ → RingSearching → RouteProgress
progress_of task j t cost search = record {
  run = j + 1;
  runs = task.runs;
  trial = t;
  trials = task.trials;
  cost = cost;
  best = pos (tour_length search.given.distance search.best);
}

-- what is shown of a ring that fits, with its cost
event_valid : (i : Instance) (n : ℕ) (best : List ℕ) → IsRing i n best → ((x y : ℕ) → i.distance x y ≡ i.distance y x) →
    ((x : ℕ) → i.distance x x ≡ 0) → (b : Bool) (better : Option (List (List ℕ))) →
    AreShown b (customer_count i) best better → (progress : RouteProgress) →
    progress.best ≡ pos (tour_length (ring_distance i (copies_in i best)) best) →
    AreShownRoutes i (Tried progress better)
event_valid i n best stands symmetric diagonal true (Some routes) is progress cost =
    let own = own_size i n best stands in (
      AreRoutes-read i best own.tour own.copies routes is.read own.fits,
      cost ∙ ap pos (sym (cost_read i best own.tour own.copies routes is.read symmetric diagonal)),
    )
event_valid i n best stands symmetric diagonal true None is progress cost = absurd is
event_valid i n best stands symmetric diagonal false better is progress cost =
    subst (λ v. AreShownRoutes i (Tried progress v)) (sym is) tt

module _ (task : RouteTask) (given : Given) (ring : List ℕ) (input : IsInput task ring given)
    (distance : given.distance ≡ ring_distance task.instance (copies_in task.instance ring))
    (symmetric : (x y : ℕ) → task.instance.distance x y ≡ task.instance.distance y x)
    (diagonal : (x : ℕ) → task.instance.distance x x ≡ 0) where
  -- the cost of the best ring of a search
  best_cost : (search : RingSearching) → search.given ≡ given → IsRing task.instance (length ring) search.best →
      pos (tour_length search.given.distance search.best)
      ≡ pos (tour_length (ring_distance task.instance (copies_in task.instance search.best)) search.best)
  best_cost search same stands =
      ap (λ (g : Given). pos (tour_length g.distance search.best)) same
      ∙ ap (λ d. pos (tour_length d search.best)) distance
      ∙ ap (λ n. pos (tour_length (ring_distance task.instance (n - customer_count task.instance)) search.best))
      (sym stands.tour.0)

  trials_valid : (j : ℕ) {begun : RingSearching} {words : Stream} {t : ℕ} {shown : List Event} {ended : RingSearching}
      {rest : Stream} →
      IsBegun given ring begun → Trials task j begun words t shown ended rest →
      All (AreShownRoutes task.instance) shown
  trials_valid j {begun} {words} begins (descended better routes) =
      let stands = best_stands task given ring {words = words} input begins begin in
      let shortest : ℤ = pos (tour_length begun.given.distance begun.best) in
      All-cons (AreShownRoutes task.instance) (trial_event task j 0 shortest begun better) []
      (event_valid task.instance (length ring) begun.best stands symmetric diagonal true better routes
      (progress_of task j 0 shortest begun) (best_cost begun begins.given_is stands))
      (All-nil (AreShownRoutes task.instance))
  trials_valid j begins (tried {t = t} {shown = shown} {new = new} {trial = report} better before step routes) =
      let run = trial (run_of before) step in
      let stands = best_stands task given ring input begins run in
      let event : Event = trial_event task j (t + 1) report.descent.after new better in
      All-append (AreShownRoutes task.instance) (shown ++ Asked true ∷ []) (event ∷ [])
      (All-append (AreShownRoutes task.instance) shown (Asked true ∷ []) (trials_valid j begins before)
      (All-cons (AreShownRoutes task.instance) (Asked true) [] tt (All-nil (AreShownRoutes task.instance))))
      (All-cons (AreShownRoutes task.instance) event []
      (event_valid task.instance (length ring) new.best stands symmetric diagonal (is_better report.outcome) better
      routes (progress_of task j (t + 1) report.descent.after new)
      (best_cost new (given_run run ∙ begins.given_is) stands)) (All-nil (AreShownRoutes task.instance)))

  run_valid : (j : ℕ) (run : Run) → IsRun task given ring j run → All (AreShownRoutes task.instance) run.shown
  run_valid j run is =
      let Valid : Event → Type 0 = AreShownRoutes task.instance in
      let end : Event = Ended (j + 1) (report_of (customer_count task.instance) run.ended) in
      let made = is.searched.made in
      let tried : All Valid (made.tried ++ made.stop) =
      All-append Valid made.tried made.stop (trials_valid j is.searched.begins made.trials)
      (All-ends Asked Valid made.ends tt) in
      subst (All Valid) (sym is.shown)
      (All-append Valid (question Asked j true) (is.tried ++ end ∷ []) (All-question Asked Valid j true tt)
      (All-append Valid is.tried (end ∷ []) (subst (All Valid) (sym made.shown_is) tried)
      (All-cons Valid end [] tt (All-nil Valid))))

  pub runs_valid : {runs : List Run} → AreRuns task given ring runs →
      All (AreShownRoutes task.instance) (shown_of runs)
  runs_valid none = All-nil (AreShownRoutes task.instance)
  runs_valid (more {runs} {run} before is) =
      subst (All (AreShownRoutes task.instance)) (sym (shown_of_more runs run))
      (All-append (AreShownRoutes task.instance) (shown_of runs) run.shown (runs_valid before) (run_valid _ run is))
