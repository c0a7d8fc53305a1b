use Rattle.std.proofs.Common.{◌∙◌, ap, refl, Some}
use Rattle.tk_engines.specs.Solve.{WritesFiles}
use Rattle.tk_engines.specs.declared.fault.Fault.TheVariants as faults
use Rattle.tk_for_c.proofs.InMemory.{from_memory, to_memory}
use Rattle.tk_for_c.proofs.SearchTexts.{never_initial, search_said, search_stop}
use Rattle.tk_for_c.proofs.search.solved.Goals as goal
use Rattle.tk_for_c.specs.Answers.{NoFault}
use Rattle.tk_for_c.specs.Searches.{IsStartFault}

pub returns-in-Ok-clause-ok : goal.returns-in-Ok-clause-ok
returns-in-Ok-clause-ok c = (
  _,
  _,
  search_said _ faults.Tour _ _ _ _ _ from_memory c.new-initial.result c.search_engine.new.initial _ _
      (ap (λ v. Some v.now) c.new-problem.ensures.inner) (ap (λ v. Some v.now) c.new-initial.ensures.inner)
      to_memory c.new-file.result c.search_engine.new.file to_memory c.new-out.result c.search_engine.new.out _ _
      c.in-Ok.ensures.ends (ap (λ v. Some v.items) c.new-file.ensures.inner ∙ ap Some c.new.ensures.items) refl
      (ap (λ v. Some v.items) c.new-out.ensures.inner ∙ ap Some c.new-2.ensures.items) refl,
)

pub returns-in-Err-clause-err : goal.returns-in-Err-clause-err
returns-in-Err-clause-err c =
    search_stop _ faults.Tour _ _ _ _ _ from_memory c.new-initial.result c.search_engine.new.initial _ _
    (ap (λ v. Some v.now) c.new-problem.ensures.inner) (ap (λ v. Some v.now) c.new-initial.ensures.inner)
    (IsStartFault _ _ c.args.initial.now) NoFault
    (WritesFiles to_memory to_memory c.new-file.result c.search_engine.new.file c.new-out.result
    c.search_engine.new.out)
    never_initial (λ q t said fits h. record { p = q; is_problem = said; fits = fits; fact = h })
    c.in-Err.fault c.in-Err.ensures.ends
