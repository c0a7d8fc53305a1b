use Rattle.std.proofs.Common.{◌≡◌, ◌+◌, [], ◌∷◌, ◌++◌, length, refl, FitsSigned, w64, pos, true, false, sym, ◌∙◌}
use Rattle.std.proofs.Common.{subst, arith, rules}
use Rattle.std.proofs.lemmas.Int.{to_z-of_z}
use Rattle.rand_core.specs.Steps.{stream_of, steps_u32}
use Rattle.rand_pcg.specs.Pcg.{pcg32}
use Rattle.tk_tour.specs.Tour.{tour_length}
use Rattle.tk_ring_search.specs.SearchOf.{search_of}
use Rattle.tk_ring_search.specs.Searching.{begin, trial}
use Rattle.tk_ring_search.specs.Totals.{is_better}
use Rattle.tk_solve.specs.Endings.{stopped}
use Rattle.tk_solve.specs.Runs.{words_of}
use Rattle.tk_solve.proofs.Endings.{ends_whole}
use Rattle.tk_route_search.specs.Events.{Asked}
use Rattle.tk_route_search.specs.Runs.{descended, tried}
use Rattle.tk_route_search.specs.Tasks.{RouteTask, IsRing, task_of}
use Rattle.tk_route_search.specs.Watching.{nothing, next, trial_event}
use Rattle.tk_route_search.proofs.RunFacts.{best_stands, has_left, own_size}
use Rattle.tk_route_search.proofs.Watched.{run_of, shown_both, shown_trial}
use Rattle.tk_route_search.proofs.search.make_trials.Goals as goal

pub tell-requires : goal.tell-requires
tell-requires g c =
    let task : RouteTask = task_of c.args.cvrp.now c.args.options.now in
    let begun = search_of c.args.search.now in
    let stands = best_stands task begun.given c.requires.begun.0 {words = words_of 0} c.requires.begun.1.0
    c.requires.begun.1.1 begin in
    record {
      ring = subst (λ v. IsRing task.instance (length v) v) (sym c.best.ensures)
          (own_size task.instance (length c.requires.begun.0) begun.best stands);
    }

pub loop-trial-init : goal.loop-trial-init
loop-trial-init g c =
    let task : RouteTask = task_of c.args.cvrp.now c.args.options.now in
    let begun = search_of c.args.search.now in
    let fits : FitsSigned w64 c.shortest.result = search (rules, c.shortest.type_inv) in
    let best_fits : FitsSigned w64 c.shortest-2.result = search (rules, c.shortest-2.type_inv) in
    let reported = shown_trial task c.args.j 0 begun true (pos (tour_length begun.given.distance begun.best))
    c.in_ok-tell.ensures refl (to_z-of_z w64 c.shortest.result fits ∙ c.shortest.ensures)
    (to_z-of_z w64 c.shortest-2.result best_fits ∙ c.shortest-2.ensures) c.best.ensures in (
      trial_event task c.args.j 0 (pos (tour_length begun.given.distance begun.best)) begun reported.0 ∷ [],
      (rw c.seed_from_u64-generator.ensures (descended reported.0 reported.1.0), next nothing reported.1.1),
    )

pub tell-requires-in-loop-trial : goal.tell-requires-in-loop-trial
tell-requires-in-loop-trial g c =
    let task : RouteTask = task_of c.args.cvrp.now c.args.options.now in
    let begun = search_of c.args.search.now in
    let stands = best_stands task begun.given c.requires.begun.0 c.requires.begun.1.0 c.requires.begun.1.1
    (trial (run_of c.loop-trial.invariant.1.0) c.in-Some.ensures) in
    record {
      ring = subst (λ v. IsRing task.instance (length v) v) (sym c.best-in-loop-trial.ensures)
          (own_size task.instance (length c.requires.begun.0) (search_of c.trial.new.self).best stands);
    }

pub loop-trial-preserved : goal.loop-trial-preserved
loop-trial-preserved g c =
    let task : RouteTask = task_of c.args.cvrp.now c.args.options.now in
    let new = search_of c.trial.new.self in
    let report = c.in-Some.report in
    let fits : FitsSigned w64 report.descent.after = search (rules, c.trial.type_inv) in
    let best_fits : FitsSigned w64 c.shortest-in-loop-trial.result =
    search (rules, c.shortest-in-loop-trial.type_inv) in
    let reported = shown_trial task c.args.j (c.loop-trial.trial + 1) new (is_better report.outcome)
    report.descent.after
    c.in_ok-tell-2.ensures c.is_better-is_new.ensures (to_z-of_z w64 report.descent.after fits)
    (to_z-of_z w64 c.shortest-in-loop-trial.result best_fits ∙ c.shortest-in-loop-trial.ensures)
    c.best-in-loop-trial.ensures in
    let asked : g.W.RouteWatch.shows c.loop-trial.watch (Asked true) c.goes_on.new.self =
    subst (λ answer. g.W.RouteWatch.shows c.loop-trial.watch (Asked answer) c.goes_on.new.self) c.if-not-goes_on.false
    c.goes_on.ensures in (
      _,
      (
        tried reported.0 c.loop-trial.invariant.1.0 c.in-Some.ensures reported.1.0,
        next (next c.loop-trial.invariant.1.1 asked) reported.1.1,
      ),
    )

pub returns-after-loop-trial : goal.returns-after-loop-trial
returns-after-loop-trial g c =
    let task : RouteTask = task_of c.args.cvrp.now c.args.options.now in
    let all : c.loop-trial.trial + 1 ≡ task.trials + 1 =
    omega (arith, c.loop-trial-test.false, c.loop-trial.auto.trial-end) in
    record {
      trials = (
        c.loop-trial.invariant.0 ++ [],
        (
          record {
            count = c.loop-trial.trial;
            tried = c.loop-trial.invariant.0;
            rest = stream_of (steps_u32 pcg32) c.loop-trial.generator;
            trials = c.loop-trial.invariant.1.0;
            stop = [];
            ends = ends_whole Asked (task.trials + 1) (c.loop-trial.trial + 1) all;
            shown_is = refl;
          },
          shown_both c.loop-trial.invariant.1.1 nothing,
        ),
      );
    }

pub returns-then-not-goes_on : goal.returns-then-not-goes_on
returns-then-not-goes_on g c =
    let task : RouteTask = task_of c.args.cvrp.now c.args.options.now in
    let asked : g.W.RouteWatch.shows c.loop-trial.watch (Asked false) c.goes_on.new.self =
    subst (λ answer. g.W.RouteWatch.shows c.loop-trial.watch (Asked answer) c.goes_on.new.self) c.if-not-goes_on.true
    c.goes_on.ensures in
    record {
      trials = (
        c.loop-trial.invariant.0 ++ Asked false ∷ [],
        (
          record {
            count = c.loop-trial.trial;
            tried = c.loop-trial.invariant.0;
            rest = stream_of (steps_u32 pcg32) c.loop-trial.generator;
            trials = c.loop-trial.invariant.1.0;
            stop = Asked false ∷ [];
            ends = stopped (omega arith) (omega (arith, c.loop-trial-test.true));
            shown_is = refl;
          },
          next c.loop-trial.invariant.1.1 asked,
        ),
      );
    }

pub returns-in_default : goal.returns-in_default
returns-in_default g c =
    let task : RouteTask = task_of c.args.cvrp.now c.args.options.now in
    let begun = search_of c.args.search.now in
    absurd (has_left task begun.given c.requires.begun.0 c.requires.begun.1.0 c.requires.begun.1.1
    (run_of c.loop-trial.invariant.1.0) c.loop-trial-test.true c.in_default.ensures.all)
