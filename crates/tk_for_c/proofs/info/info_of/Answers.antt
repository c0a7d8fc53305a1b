use Rattle.std.proofs.Common.{ap, Some}
use Rattle.tk_text.specs.Problem.{problem_texts}
use Rattle.tk_engines.specs.Engine.{WritesNothing}
use Rattle.tk_engines.specs.Info.{info_outcome_task}
use Rattle.tk_for_c.proofs.InMemory.{from_memory}
use Rattle.tk_for_c.proofs.EngineStops.{stop_of}
use Rattle.tk_for_c.proofs.TextsSaid.{says}
use Rattle.tk_for_c.proofs.info.info_of.Goals as goal
use Rattle.tk_for_c.specs.Answers.{NeverClashes}

pub returns-in-Ok-clause-ok : goal.returns-in-Ok-clause-ok
returns-in-Ok-clause-ok c =
    let given = c.in-Ok.ensures.ends in
    record {
      p = given.problem;
      is_problem = says problem_texts from_memory c.new-problem.result c.info_outcome.new.problem c.args.problem.now
          given.problem (ap (λ v. Some v.now) c.new-problem.ensures.inner) given.read.is_problem;
      is = given.gives;
    }

pub returns-in-Err-clause-err : goal.returns-in-Err-clause-err
returns-in-Err-clause-err c =
    stop_of info_outcome_task NeverClashes _ _ _ _ _ _ (ap (λ v. Some v.now) c.new-problem.ensures.inner) _
    WritesNothing (λ p v said fits h. elim h [ ]) (λ p b f read clash. absurd cc) c.in-Err.fault c.in-Err.ensures.ends
