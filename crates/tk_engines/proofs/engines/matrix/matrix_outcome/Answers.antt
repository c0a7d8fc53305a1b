use Rattle.std.proofs.Common.{refl, rules}
use Rattle.tk_problem_text.specs.ProblemOf.{problem_is}
use Rattle.tk_engines.proofs.ProblemTables.{is_not_too_large}
use Rattle.tk_engines.proofs.TextsRead.{is_read}
use Rattle.tk_engines.proofs.engines.matrix.matrix_outcome.Goals as goal

pub returns-in-Ok : goal.returns-in-Ok
returns-in-Ok g c = record {
  ends = record {
    problem = problem_is c.in-Ok.problem;
    is_problem = is_read c.in-Ok.ensures.reads;
    misfit = search rules;
  };
}

pub returns-in-Ok-2 : goal.returns-in-Ok-2
returns-in-Ok-2 g c = record {
  ends = record {
    problem = problem_is c.in-Ok.problem;
    second = tt;
    text = tt;
    read = record {
      is_problem = is_read c.in-Ok.ensures.reads;
      fits = is_not_too_large (problem_is c.in-Ok.problem) c.if-read_problem-gt-TABLE_LIMIT.false;
      is_second = tt;
    };
    together = refl;
    gives = record { is = refl; few = c.if-read_problem-gt-TABLE_LIMIT.false; named = c.in-Ok.ensures.named };
    written = tt;
  };
}
