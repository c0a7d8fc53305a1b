use Rattle.std.proofs.Common.{◌∙◌, ap, refl, Some}
use Rattle.tk_for_c.proofs.InMemory.{from_memory, to_memory}
use Rattle.tk_for_c.proofs.PlotTexts.{plot_said, plot_stop}
use Rattle.tk_for_c.proofs.plot.plotted.Goals as goal

pub returns-in-Ok-clause-ok : goal.returns-in-Ok-clause-ok
returns-in-Ok-clause-ok c =
    plot_said _ _ _ from_memory c.new-claim.result c.plot_engine.new.claim
    to_memory c.new-out.result c.plot_engine.new.out to_memory c.new-reported.result c.plot_engine.new.reported _
    c.in-Ok.ensures.ends.0 _ _ _ _ _ _
    c.in-Ok.ensures.ends.1
    (ap (λ v. Some v.now) c.new-problem.ensures.inner) (ap (λ v. Some v.now) c.new-claim.ensures.inner)
    (ap (λ v. Some v.items) c.new-out.ensures.inner ∙ ap Some c.new.ensures.items) refl
    (ap (λ v. Some v.items) c.new-reported.ensures.inner ∙ ap Some c.new-2.ensures.items) refl

pub returns-in-Err-clause-err : goal.returns-in-Err-clause-err
returns-in-Err-clause-err c =
    plot_stop from_memory c.new-problem.result c.plot_engine.new.problem from_memory c.new-claim.result
    c.plot_engine.new.claim to_memory c.new-out.result c.plot_engine.new.out to_memory c.new-reported.result
    c.plot_engine.new.reported _ c.requires.names c.in-Err.ensures.ends.0 _ _ _
    (ap (λ v. Some v.now) c.new-problem.ensures.inner) (ap (λ v. Some v.now) c.new-claim.ensures.inner)
    c.in-Err.fault c.in-Err.ensures.ends.1
