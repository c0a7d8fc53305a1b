use Rattle.std.proofs.Common.{◌∙◌, ◌+◌, true, false, arith, ap, refl, sym, subst, List, [], ◌∷◌, ◌++◌, length-append}
use Rattle.tk_solve.specs.Endings.{EndsAfter, question}
use Rattle.tk_solve.specs.Events.{Event, Asked}
use Rattle.tk_solve.specs.Runs.{AreSoFar}
use Rattle.tk_solve.specs.Starts.{task_of}
use Rattle.tk_solve.specs.declared.outcome.RunReport.{RunReport}
use Rattle.tk_solve.specs.Watching.{WereShown, nothing}
use Rattle.tk_solve.proofs.RunsSoFar.{so_far_none}
use Rattle.tk_solve.proofs.Watched.{shown_both, shown_of_more}
use Rattle.tk_solve.proofs.Endings.{ends_stopped, ends_whole, stopped_later}
use Rattle.tk_solve.proofs.tour.run_all.Goals.{else-loop-j-test, then-loop-j-test+then-not-is_made}
use Rattle.tk_solve.proofs.tour.run_all.Goals as goal

pub loop-j-init : goal.loop-j-init
loop-j-init g c =
    let task = task_of c.args.table.now c.args.options.now in
    let outcome = c.new-outcome.result in
    let P : List RunReport → Type 0 = λ v. AreSoFar task c.args.near.now [] v outcome.cities.items outcome.shortest in (
      [],
      refl,
      (
        subst P (sym c.new-outcome.ensures.reports)
            (so_far_none task c.args.near.now outcome.cities.items outcome.shortest),
        nothing,
      ),
    )

pub loop-j-preserved : goal.loop-j-preserved
loop-j-preserved g c =
    let runs = c.loop-j.invariant.0 in
    let Watched : List Event → Type 0 = WereShown g.W.Watch.shows c.args.watch.now c.add_run.new.watch in
    let asked : WereShown g.W.Watch.shows c.loop-j.watch c.is_made.new.watch (question Asked c.loop-j.j true) =
    subst (λ answer. WereShown g.W.Watch.shows c.loop-j.watch c.is_made.new.watch
    (question Asked c.loop-j.j answer)) c.if-not-is_made.false c.is_made.ensures.asked in
    let added = c.in_ok-add_run.ensures runs c.loop-j.invariant.1 c.loop-j.invariant.2.0 in
    let run = added.0 in
    let own = shown_both asked added.1.1.1.1 in
    let both = shown_both c.loop-j.invariant.2.1 (subst (WereShown g.W.Watch.shows c.loop-j.watch c.add_run.new.watch)
    (sym added.1.1.1.0) own) in
    let watched = subst Watched (sym (shown_of_more runs run)) both in
    (runs ++ run ∷ [], length-append runs (run ∷ []) ∙ ap (λ n. n + 1) c.loop-j.invariant.1, (added.1.0, watched))

pub returns : goal.returns
returns g c =
    let runs = c.loop-j.invariant.0 in
    let shows = g.W.Watch.shows in
    let j = c.loop-j.j in
    let ended : (stop : List Event) × (EndsAfter Asked c.args.options.now.runs j stop
    × WereShown shows c.loop-j.watch c.loop-j-test.watch stop) =
    elim c.loop-j-test.branch [
      | else-loop-j-test w ↦ (
        [],
        (
          ends_whole Asked c.args.options.now.runs j (omega (arith, w.loop-j-test, c.loop-j.auto.j-end)),
          subst (λ new. WereShown shows c.loop-j.watch new []) (sym w.watch-is) nothing,
        ),
      )
      | then-loop-j-test+then-not-is_made w ↦ (
        question Asked j false,
        (
          ends_stopped Asked c.args.options.now.runs j
              (stopped_later Asked j _ w.is_made.ensures.first w.if-not-is_made.true) w.loop-j-test.true,
          subst (λ new. WereShown shows c.loop-j.watch new (question Asked j false)) (sym w.watch-is)
              (subst (λ answer. WereShown shows c.loop-j.watch w.is_made.new.watch (question Asked j answer))
              w.if-not-is_made.true w.is_made.ensures.asked),
        ),
      )
    ] in
    record {
      runs = runs;
      kept = c.loop-j.invariant.2.0;
      stop = ended.0;
      ends = subst (λ k. EndsAfter Asked c.args.options.now.runs k ended.0) (sym c.loop-j.invariant.1) ended.1.0;
      watched = shown_both c.loop-j.invariant.2.1 ended.1.1;
    }
