use Rattle.std.proofs.Common.{◌≡◌, ◌∙◌, ◌+◌, ap, refl, sym, subst, pos, [], ◌∷◌, ◌++◌, length, length-append}
use Rattle.std.proofs.Common.{ℕ, ◌≤◌, FitsSigned, w64, true, false, nat_lt, List, arith, rules}
use Rattle.std.specs.Prelude.{All, if◌then◌else◌}
use Rattle.std.proofs.lemmas.Int.{to_z-of_z}
use mir.Val.{to_z, of_z}
use Rattle.tk_distance.specs.Cities.{IsCity}
use Rattle.tk_solve.proofs.TourEntries.{cities_of_tour}
use Rattle.tk_tour.specs.Tour.{tour_length}
use Rattle.tk_ring_search.specs.Given.{Given, given_of}
use Rattle.tk_routes.specs.Instance.{customer_count}
use Rattle.tk_solve.specs.Endings.{EndsAfter, question}
use Rattle.tk_solve.proofs.Endings.{ends_stopped, ends_whole, stopped_later}
use Rattle.tk_route_search.specs.Events.{Event, Asked}
use Rattle.tk_route_search.specs.Outcomes.{IsRunAdded}
use Rattle.tk_route_search.specs.Tasks.{RouteTask, copies_in, given_for, task_of}
use Rattle.tk_route_search.specs.Watching.{WereShown, nothing}
use Rattle.tk_route_search.proofs.RunInputs.{given_is}
use Rattle.tk_route_search.proofs.RunsSoFar.{kept_none}
use Rattle.tk_route_search.proofs.Watched.{shown_both, shown_of_more}
use Rattle.tk_route_search.proofs.routes.run_each.Goals.{else-loop-j-test, then-loop-j-test+then-not-is_made}
use Rattle.tk_route_search.proofs.routes.run_each.Goals as goal

pub length-requires-clause-cities : goal.length-requires-clause-cities
length-requires-clause-cities g c =
    subst (λ n. All (IsCity n) c.args.ring.now) (sym c.requires.size)
    (cities_of_tour (length c.args.ring.now) c.args.ring.now c.requires.ring.tour)

-- with several customers all runs are requested
all_runs : (k runs : ℕ) → 2 ≤ k → (if nat_lt k 2 then 0 else runs) ≡ runs
all_runs k runs some = search rules

pub loop-j-init : goal.loop-j-init
loop-j-init g c =
    let task : RouteTask = task_of c.args.cvrp.now c.args.options.now in
    let given : Given = given_for task (copies_in task.instance c.args.ring.now) c.args.near.now in
    let fits : FitsSigned w64 c.length.result = search (rules, c.length.type_inv) in
    let long : to_z w64 (of_z w64 c.length.result) ≡ pos (tour_length given.distance c.args.ring.now) =
    to_z-of_z w64 c.length.result fits ∙ c.length.ensures
    ∙ ap (λ d. pos (tour_length d c.args.ring.now)) c.requires.distance in
    let kept = c.in_ok-outcome.ensures in (
      [],
      refl,
      (
        kept_none task given c.args.ring.now c.in_ok-outcome.outcome c.requires.ring kept.reports kept.ring
            (kept.costs.0 ∙ long) (kept.costs.1 ∙ long),
        nothing,
      ),
    )

pub loop-j-preserved : goal.loop-j-preserved
loop-j-preserved g c =
    let task : RouteTask = task_of c.args.cvrp.now c.args.options.now in
    let copies = copies_in task.instance c.args.ring.now in
    let terms = c.terms_of-terms.ensures in
    let same : given_of g.M.Metric c.terms_of-terms.result ≡ given_for task copies c.args.near.now =
    given_is g.M.Metric c.terms_of-terms.result task copies c.args.near.now
    (ap g.M.Metric.distance terms.metric ∙ c.requires.distance) terms.near
    (terms.vehicles.0 ∙ c.capacity.ensures.value)
    (terms.vehicles.1 ∙ c.deref.ensures.value ∙ c.in_ok-demands.ensures) terms.options.0 terms.options.1
    terms.options.2 in
    let runs = c.loop-j.invariant.0 in
    let run_added = subst (λ (v : Given). IsRunAdded task v c.args.ring.now c.loop-j.j
    (WereShown g.W.RouteWatch.shows c.is_made.new.watch c.add_run.new.watch) c.loop-j.outcome c.add_run.new.self) same
    c.in_ok-add_run.ensures in
    let added = run_added runs c.loop-j.invariant.1 c.loop-j.invariant.2.0 in
    let run = added.0 in
    let asked : WereShown g.W.RouteWatch.shows c.loop-j.watch c.is_made.new.watch (question Asked c.loop-j.j true) =
    subst (λ answer. WereShown g.W.RouteWatch.shows c.loop-j.watch c.is_made.new.watch
    (question Asked c.loop-j.j answer)) c.if-not-is_made.false c.is_made.ensures.asked in
    let own = shown_both asked added.1.1.1.1 in
    let both = shown_both c.loop-j.invariant.2.1
    (subst (WereShown g.W.RouteWatch.shows c.loop-j.watch c.add_run.new.watch) (sym added.1.1.1.0) own) in
    let watched =
    subst (WereShown g.W.RouteWatch.shows c.args.watch.now c.add_run.new.watch) (sym (shown_of_more runs run)) both in
    (runs ++ run ∷ [], length-append runs (run ∷ []) ∙ ap (λ n. n + 1) c.loop-j.invariant.1, (added.1.0, watched))

pub returns : goal.returns
returns g c =
    let task : RouteTask = task_of c.args.cvrp.now c.args.options.now in
    let n = c.args.options.now.runs in
    let j = c.loop-j.j in
    let shows = g.W.RouteWatch.shows in
    let ended : (stop : List Event) × (EndsAfter Asked n j stop
    × WereShown shows c.loop-j.watch c.loop-j-test.watch stop) =
    elim c.loop-j-test.branch [
      | else-loop-j-test w ↦ (
        [],
        (
          ends_whole Asked n j (omega (arith, w.loop-j-test, c.loop-j.auto.j-end)),
          subst (λ new. WereShown shows c.loop-j.watch new []) (sym w.watch-is) nothing,
        ),
      )
      | then-loop-j-test+then-not-is_made w ↦ (
        question Asked j false,
        (
          ends_stopped Asked n j (stopped_later Asked j _ w.is_made.ensures.first w.if-not-is_made.true)
              w.loop-j-test.true,
          subst (λ new. WereShown shows c.loop-j.watch new (question Asked j false)) (sym w.watch-is)
              (subst (λ answer. WereShown shows c.loop-j.watch w.is_made.new.watch (question Asked j answer))
              w.if-not-is_made.true w.is_made.ensures.asked),
        ),
      )
    ] in
    let count : length c.loop-j.invariant.0 ≡ j = c.loop-j.invariant.1 in
    record {
      near = c.args.near.now;
      candidates = λ two. c.requires.near;
      runs = c.loop-j.invariant.0;
      stop = ended.0;
      ends = subst (λ m. EndsAfter Asked m (length c.loop-j.invariant.0) ended.0)
          (sym (all_runs (customer_count task.instance) n c.requires.some))
          (subst (λ k. EndsAfter Asked n k ended.0) (sym count) ended.1.0);
      made = c.loop-j.invariant.2.0;
      watched = shown_both c.loop-j.invariant.2.1 ended.1.1;
    }
