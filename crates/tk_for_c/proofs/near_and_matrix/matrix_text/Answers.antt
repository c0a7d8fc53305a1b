use Rattle.std.proofs.Common.{◌∙◌, ℕ, List, Some, ap, refl, subst, sym}
use Rattle.tk_problem.specs.declared.weights.Format.TheVariants.{FullMatrix}
use Rattle.tk_engines.specs.MatrixOf.{IsMatrixText}
use Rattle.tk_writers.specs.Puts.{Writes}
use Rattle.tk_for_c.proofs.InMemory.{to_memory}
use Rattle.tk_for_c.proofs.EngineStops.{stop_of}
use Rattle.tk_for_c.proofs.PlotTexts.{appended}
use Rattle.tk_for_c.proofs.TextsSaid.{says}
use Rattle.tk_for_c.proofs.near_and_matrix.matrix_text.Goals as goal
use Rattle.tk_for_c.specs.Answers.{NeverClashes}

pub returns-in-Ok-clause-ok : goal.returns-in-Ok-clause-ok
returns-in-Ok-clause-ok c =
    let h = c.in-Ok.ensures.ends in
    record {
      p = h.problem;
      is_problem = says _ _ _ _ _ _ (ap (λ v. Some v.now) c.new-problem.ensures.inner) h.read.is_problem;
      is = subst (λ (t : List ℕ). IsMatrixText FullMatrix h.problem t)
          (sym (appended _ _ _ _ (ap (λ v. Some v.items) c.new-text.ensures.inner ∙ ap Some c.new.ensures.items) refl
          h.written.0)) h.gives;
    }

pub returns-in-Err-clause-err : goal.returns-in-Err-clause-err
returns-in-Err-clause-err c =
    stop_of _ NeverClashes _ _ _ _ _ _ (ap (λ v. Some v.now) c.new-problem.ensures.inner) _
    (Writes to_memory c.new-text.result c.matrix_engine.new.out)
    (λ p v said fits h. elim h [ ]) (λ p b f read clash. absurd cc) c.in-Err.fault c.in-Err.ensures.ends
