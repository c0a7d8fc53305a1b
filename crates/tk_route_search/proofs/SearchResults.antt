-- The result of a search, from what is kept of its runs.
use Rattle.std.proofs.Common.{◌≡◌, ℕ, ◌+◌, ◌<◌, ◌≤◌, pos, List, length, ⊎_elim, nat_lt, refl, sym, ap, ◌∙◌, subst}
use Rattle.std.proofs.Common.{arith, rules}
use Rattle.std.specs.Prelude.{All, ◌≤ℤ◌, if◌then◌else◌}
use Rattle.std.specs.Int.RustNames.{unsigned_abs}
use Rattle.std.proofs.lemmas.Bool.{cases_lt}
use Rattle.std.proofs.lemmas.Int.{ints}
use Rattle.std.proofs.lemmas.List.{nil_from_length}
use Rattle.std.proofs.lemmas.List.Elements.{All-nil}
use Rattle.tk_lists.specs.Solution.{lists_of}
use Rattle.tk_rings.specs.RingRoutes.{AreRoutesOf, ring_distance, ring_of, ring_size}
use Rattle.tk_routes.specs.Instance.{Instance, customer_count}
use Rattle.tk_routes.specs.Routes.{AreRoutes, routes_cost}
use Rattle.tk_tour.specs.Tour.{IsTour, tour_length}
use Rattle.tk_ring_search.specs.Given.{Given}
use Rattle.tk_ring_search.specs.Totals.{IsBounded}
use Rattle.tk_route_search.specs.declared.outcome.Outcome.{Outcome}
use Rattle.tk_route_search.specs.declared.outcome.RouteRun.{RouteRun}
use Rattle.tk_route_search.specs.declared.routes.SolvedRoutes.{SolvedRoutes}
use Rattle.tk_solve.proofs.Endings.{ends_within}
use Rattle.tk_route_search.specs.Events.{Event, Asked}
use Rattle.tk_route_search.specs.Outcomes.{AreKept, AreMade}
use Rattle.tk_route_search.specs.SolvedRoutes.{AreSolved, AreSound, IsBoundedRun}
use Rattle.tk_route_search.specs.Runs.{shown_of}
use Rattle.tk_route_search.specs.Watching.{AreShownRoutes}
use Rattle.tk_route_search.specs.Tasks.{IsRing, RouteTask, AreCandidates, IsStart, copies_in, given_for}
use Rattle.tk_route_search.proofs.RunInputs.{input_is}
use Rattle.tk_route_search.proofs.ShownRoutes.{runs_valid}
use Rattle.tk_route_search.proofs.ResultsOfRuns.{IsSoundRun, kept_cheaper, reports_sound}

-- with one customer there are no runs
no_runs : (k runs : ℕ) → k < 2 → (if nat_lt k 2 then 0 else runs) ≡ 0
no_runs k runs few = search rules

-- what is read off the ring that is kept
pub record IsReadOff (i : Instance) (begun : List (List ℕ)) (kept : Outcome) (solved : SolvedRoutes) : Type 0 where
  pub ring : IsTour (ring_size i begun) (ring_of i begun)
  pub stands : IsRing i (length (ring_of i begun)) (ring_of i begun)
  pub symmetric : (x y : ℕ) → i.distance x y ≡ i.distance y x
  pub diagonal : (x : ℕ) → i.distance x x ≡ 0
  pub ring_cost : tour_length (ring_distance i (length begun + 1)) (ring_of i begun) ≡ routes_cost i begun
  pub read : AreRoutesOf (customer_count i) kept.ring.items (lists_of solved.routes.items)
  pub valid : AreRoutes i (lists_of solved.routes.items)
  pub routes_cost_is : routes_cost i (lists_of solved.routes.items)
      ≡ tour_length (ring_distance i (copies_in i kept.ring.items)) kept.ring.items
  pub cost : solved.cost ≡ kept.cost
  pub start : solved.start ≡ kept.start
  pub start_count : solved.start_routes ≡ length begun
  pub runs : solved.runs.items ≡ kept.reports.items

module _ (task : RouteTask) (start : List (List ℕ)) (Watched : List Event → Type 0) (kept : Outcome)
    (solved : SolvedRoutes) (made : AreMade task (ring_of task.instance start) Watched kept)
    (off : IsReadOff task.instance start kept solved) where
  copies_are : copies_in task.instance (ring_of task.instance start) ≡ length start + 1
  copies_are = omega (arith, off.ring.0)

  kept_of : AreKept task (given_for task (length start + 1) made.near) (ring_of task.instance start) made.runs kept
  kept_of = subst (λ v. AreKept task (given_for task v made.near) (ring_of task.instance start) made.runs kept)
      copies_are made.made

  same_copies : copies_in task.instance kept.ring.items ≡ length start + 1
  same_copies = omega (arith, off.ring.0, made.made.stands.tour.0)

  cost_is : solved.cost ≡ pos (routes_cost task.instance (lists_of solved.routes.items))
  cost_is =
      let same : tour_length (ring_distance task.instance (copies_in task.instance kept.ring.items)) kept.ring.items
      ≡ tour_length (ring_distance task.instance (length start + 1)) kept.ring.items =
      ap (λ v. tour_length (ring_distance task.instance v) kept.ring.items) same_copies in
      off.cost ∙ kept_of.cost ∙ ap pos (sym (off.routes_cost_is ∙ same))

  reports : All (IsSoundRun (given_for task (length start + 1) made.near) (length (ring_of task.instance start)) kept)
      kept.reports.items
  reports = reports_sound task (given_for task (length start + 1) made.near) (ring_of task.instance start) made.runs
      kept kept_of

  each_report : (P : RouteRun → Type 0) →
      ((r : RouteRun) → IsSoundRun (given_for task (length start + 1) made.near) (length (ring_of task.instance start))
      kept r → P r) → All P solved.runs.items
  each_report P h = subst (All P) (sym off.runs) (λ k d lt. h _ (reports k d lt))

  shown_valid : All (AreShownRoutes task.instance) (shown_of made.runs)
  shown_valid =
      let k = customer_count task.instance in
      let ring : List ℕ = ring_of task.instance start in
      let given : Given = given_for task (copies_in task.instance ring) made.near in
      let none : k < 2 → All (AreShownRoutes task.instance) (shown_of made.runs) = λ few.
      let no : length made.runs ≡ 0 = omega (arith, ends_within Asked made.ends, no_runs k task.runs few) in
      subst (λ v. All (AreShownRoutes task.instance) (shown_of v)) (sym (nil_from_length made.runs no))
      (All-nil (AreShownRoutes task.instance)) in
      let some : 2 ≤ k → All (AreShownRoutes task.instance) (shown_of made.runs) = λ two.
      runs_valid task given ring (input_is task ring made.near off.stands (made.candidates two)) refl off.symmetric
      off.diagonal made.made.are in
      ⊎_elim none some (cases_lt k 2)

  pub solved_of : IsStart task start solved.candidates → AreSolved task Watched solved
  solved_of begins = record {
    start = start;
    begins = begins;
    near = made.near;
    candidates = λ two. subst (λ v. AreCandidates task v made.near) copies_are (made.candidates two);
    runs = made.runs;
    are = kept_of.are;
    stop = made.stop;
    ends = made.ends;
    reports = off.runs ∙ kept_of.reports;
    winner = kept.ring.items;
    first = kept_of.first;
    read = off.read;
    cost = cost_is;
    start_cost = off.start ∙ kept_of.start ∙ ap pos off.ring_cost;
    start_count = off.start_count;
    watched = made.watched;
    shown = shown_valid;
    bounded = each_report (IsBoundedRun task start made.near) (λ r is.
        subst (λ n. IsBounded (given_for task (length start + 1) made.near) n (unsigned_abs r.best) r.totals)
        off.ring.0 is.bounded);
  }

  pub sound_of : AreSound task solved
  sound_of = record {
    valid = off.valid;
    cheaper = omega (
      arith,
      ints,
      off.cost,
      off.start,
      kept_cheaper task (given_for task (length start + 1) made.near) (ring_of task.instance start) made.runs kept
          kept_of,
    );
    least = each_report (λ r. solved.cost ≤ℤ r.best) (λ r is. omega (arith, ints, off.cost, is.least));
    starts = each_report (λ r. r.totals.start ≡ solved.start) (λ r is. is.start ∙ sym off.start);
  }
