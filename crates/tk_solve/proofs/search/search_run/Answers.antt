use Rattle.std.proofs.Common.{◌≡◌, ◌+◌, ◌<◌, ◌≤◌, ℕ, ℤ, true, false, refl, List, [], ◌++◌, FitsSigned, w64}
use Rattle.std.proofs.Common.{pos, nat_lt, ap, sym, ◌∙◌, subst, arith, rules}
use Rattle.std.specs.Prelude.{if◌then◌else◌}
use Rattle.std.proofs.lemmas.Int.{to_z-of_z}
use mir.Val.{to_z, of_z}
use Rattle.rand_core.specs.Steps.{stream_of, steps_u32}
use Rattle.rand_pcg.specs.Pcg.{pcg32}
use Rattle.tk_search.specs.SearchOf.{search_of}
use Rattle.tk_tour.specs.Tour.{tour_length}
use Rattle.tk_search.specs.Searching.{Searching, trial}
use Rattle.tk_search.proofs.SearchTrials.Runs.{given_run}
use Rattle.tk_solve.specs.Endings.{EndsAfter, question}
use Rattle.tk_solve.specs.Events.{Event, Asked, Tried}
use Rattle.tk_solve.specs.Runs.{Trials, untried, tried, words_of}
use Rattle.tk_solve.specs.Starts.{TourTask, task_over, trials_of}
use Rattle.tk_solve.specs.Watching.{WereShown, nothing, next}
use Rattle.tk_solve.proofs.Endings.{ends_stopped, ends_whole, stopped_later}
use Rattle.tk_solve.proofs.Watched.{run_of, shown_both}
use Rattle.tk_solve.proofs.search.search_run.Given.{Over}
use Rattle.tk_solve.proofs.search.search_run.Goals.{then-size-lt8, else-size-lt8}
use Rattle.tk_solve.proofs.search.search_run.Goals.{else-loop-trial-test, then-loop-trial-test+then-not-is_made}
use Rattle.tk_solve.proofs.search.search_run.Goals as goal

pub loop-trial-init : goal.loop-trial-init
loop-trial-init g c = ([], (rw c.seed_from_u64-generator.ensures untried, nothing))

pub loop-trial-preserved : goal.loop-trial-preserved
loop-trial-preserved g c =
    let after = c.trial-report.result.descent.after in
    let tried_search = search_of c.trial-report.new.self in
    let shortest = pos (tour_length (g.M.Metric.distance c.args.metric.now) tried_search.best) in
    let fits : FitsSigned w64 after = search (rules, c.trial-report.type_inv) in
    let best_fits : FitsSigned w64 c.shortest.result = search (rules, c.shortest.type_inv) in
    let given = given_run (trial (run_of c.loop-trial.invariant.1.0) c.trial-report.ensures.next) in
    let reported : ℤ → ℤ → List ℕ → Event = λ length best cities.
    Tried (record {
      run = c.args.j + 1;
      runs = c.args.options.now.runs;
      trial = c.loop-trial.trial + 1;
      trials = c.if-size-lt8.trials;
      length = length;
      best = best;
    }) cities in
    let best_is : to_z w64 (of_z w64 c.shortest.result) ≡ shortest = to_z-of_z w64 c.shortest.result best_fits
    ∙ c.shortest.ensures
    ∙ ap (λ d. pos (tour_length d tried_search.best)) (given.distance ∙ c.in_ok-search.ensures.begun.table.0) in
    let Shown : ℤ → ℤ → List ℕ → Type 0 =
    λ length best cities. g.W.Watch.shows c.is_made.new.watch (reported length best cities) c.trial.new.self in
    let lengths = subst (λ length. Shown length (to_z w64 (of_z w64 c.shortest.result)) c.best.result.now)
    (to_z-of_z w64 after fits) c.trial.ensures in
    let shown =
    subst (Shown after shortest) c.best.ensures
    (subst (λ best. Shown after best c.best.result.now) best_is lengths) in
    let question_is : WereShown g.W.Watch.shows c.loop-trial.watch c.is_made.new.watch
    (question Asked c.loop-trial.trial true) = subst (λ answer. WereShown g.W.Watch.shows c.loop-trial.watch
    c.is_made.new.watch (question Asked c.loop-trial.trial answer)) c.if-not-is_made.false c.is_made.ensures.asked in (
      _,
      (
        tried c.loop-trial.invariant.1.0 c.trial-report.ensures.next,
        next (shown_both c.loop-trial.invariant.1.1 question_is) shown,
      ),
    )

one_trial : (size trials : ℕ) → size < 8 → (if nat_lt size 8 then 1 else trials) ≡ 1
one_trial size trials few = search rules

all_trials : (size trials : ℕ) → 8 ≤ size → (if nat_lt size 8 then 1 else trials) ≡ trials
all_trials size trials many = search rules

-- how the trials ended, and the events of it
ended : (g : Over) (c : goal.Left-loop-trial g) → (stop : List Event)
    × (EndsAfter Asked c.if-size-lt8.trials c.loop-trial.trial stop
    × WereShown g.W.Watch.shows c.loop-trial.watch c.loop-trial-test.watch stop)
ended g c =
    let t = c.loop-trial.trial in
    let trials = c.if-size-lt8.trials in
    let shows = g.W.Watch.shows in
    elim c.loop-trial-test.branch [
      | else-loop-trial-test w ↦ (
        [],
        (
          ends_whole Asked trials t (omega (arith, w.loop-trial-test, c.loop-trial.auto.trial-end)),
          subst (λ new. WereShown shows c.loop-trial.watch new []) (sym w.watch-is) nothing,
        ),
      )
      | then-loop-trial-test+then-not-is_made w ↦ (
        question Asked t false,
        (
          ends_stopped Asked trials t (stopped_later Asked t _ w.is_made.ensures.first w.if-not-is_made.true)
              w.loop-trial-test.true,
          subst (λ new. WereShown shows c.loop-trial.watch new (question Asked t false)) (sym w.watch-is)
              (subst (λ answer. WereShown shows c.loop-trial.watch w.is_made.new.watch (question Asked t answer))
              w.if-not-is_made.true w.is_made.ensures.asked),
        ),
      )
    ]

pub returns : goal.returns
returns g c =
    let words = words_of (c.args.options.now.seed + c.args.j) in
    let task : TourTask = task_over (g.M.Metric.size_of c.args.metric.now) (g.M.Metric.distance c.args.metric.now)
    c.args.options.now in
    let all : c.if-size-lt8.trials ≡ trials_of task =
    elim c.if-size-lt8.branch [
      | then-size-lt8 w ↦ w.trials-is
          ∙ sym (one_trial task.size task.trials (omega (arith, c.size.ensures, w.if-size-lt8)))
      | else-size-lt8 w ↦ w.trials-is
          ∙ sym (all_trials task.size task.trials (omega (arith, c.size.ensures, w.if-size-lt8)))
    ] in
    let stop = ended g c in
    let shown = c.loop-trial.invariant.0 in
    let reported : ℕ → ℕ → ℤ → Searching → Event = λ trials t length search.
    Tried (record {
      run = c.args.j + 1;
      runs = c.args.options.now.runs;
      trial = t + 1;
      trials = trials;
      length = length;
      best = pos (tour_length task.distance search.best);
    }) search.best in
    let P : ℕ → Type 0 = λ trials. Trials (reported trials) (search_of c.in_ok-search.search) words c.loop-trial.trial
    shown (search_of c.loop-trial.search) (stream_of (steps_u32 pcg32) c.loop-trial.generator) in (
      shown ++ stop.0,
      (
        record {
          begun = search_of c.in_ok-search.search;
          begins = c.in_ok-search.ensures.begun;
          made = c.loop-trial.trial;
          tried = shown;
          rest = stream_of (steps_u32 pcg32) c.loop-trial.generator;
          trials = subst P all c.loop-trial.invariant.1.0;
          stop = stop.0;
          ends = subst (λ n. EndsAfter Asked n c.loop-trial.trial stop.0) all stop.1.0;
          shown_is = refl;
        },
        shown_both c.loop-trial.invariant.1.1 stop.1.1,
      ),
    )
