use Rattle.std.proofs.Common.{refl}
use Rattle.tk_engines.proofs.BetweenEnds.{found_ends, memory_ended, start_failed}
use Rattle.tk_engines.proofs.SolveEnds.{unwatched}
use Rattle.tk_engines.proofs.engines.between.search_between.Goals as goal

pub returns-in_err-check_start : goal.returns-in_err-check_start
returns-in_err-check_start g c =
    let result = c.from_residual.result in
    let fault = c.in_err-check_start.field-0.0 in
    record {
      ends = start_failed _ _ c.args.problem.now _ c.in-Some.ensures.some _ fault result c.from_residual.ensures.1
          c.in_err-check_start.ensures.err;
      unwatched = unwatched _ refl result;
    }

pub returns-in-Ok-clause-ends : goal.returns-in-Ok-clause-ends
returns-in-Ok-clause-ends g c =
    found_ends _ _ c.args.problem.now _ c.in-Some.ensures.some _ c.in-Ok.found c.in_ok-check_start.ensures.is
    (rw c.deref.ensures.value at c.in-Ok.ensures)

pub returns-in-Err-clause-ends : goal.returns-in-Err-clause-ends
returns-in-Err-clause-ends g c = memory_ended _ _ c.args.problem.now _ c.in-Some.ensures.some _
