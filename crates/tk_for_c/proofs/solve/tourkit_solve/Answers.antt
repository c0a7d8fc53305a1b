use Rattle.std.proofs.Common.{ap, arith, is_some}
use Rattle.tk_engines.specs.Solve.{misfit_of, solve_task}
use Rattle.tk_for_c.proofs.Refusals.{params_refused}
use Rattle.tk_for_c.proofs.SearchAnswers.{tour_end}
use Rattle.tk_for_c.proofs.solve.tourkit_solve.Goals as goal
use Rattle.tk_for_c.specs.declared.answer.Answer.{Answer}

pub returns-in-Ok : goal.returns-in-Ok
returns-in-Ok c =
    let p = c.in-Ok.params in
    let end = tour_end (solve_task p) (misfit_of p) (is_some p.initial_tour_file) 2 (omega arith) c.args.problem.now
    c.args.initial.now c.answer_of.result c.solved.result c.solved.ensures.ok c.solved.ensures.err
    c.answer_of.ensures.given c.answer_of.ensures.stopped in
    record {
      given = λ few. let h = end.given few in (h.0, record { p = p; are = c.in-Ok.ensures.ok; solved = h.1 }, h.2);
      known = end.known;
      parameters = λ two one. absurd (omega (arith, one, (end.refused two).known));
      refused = λ two _. (p, c.in-Ok.ensures.ok, end.refused two);
      memory = end.memory;
      message = end.message;
      kept = end.kept;
    }

pub returns-in-Err-clause-parameters : goal.returns-in-Err-clause-parameters
returns-in-Err-clause-parameters c = λ two _.
    params_refused c.args.parameters.now c.in-Err.fault c.params_stopped.result two c.params_stopped.ensures.is
    c.in-Err.ensures.err

pub returns-in-Err-clause-refused : goal.returns-in-Err-clause-refused
returns-in-Err-clause-refused c = λ two other.
    absurd (other (ap (λ (a : Answer). a.text) (params_refused c.args.parameters.now c.in-Err.fault
    c.params_stopped.result two c.params_stopped.ensures.is c.in-Err.ensures.err).reported))
