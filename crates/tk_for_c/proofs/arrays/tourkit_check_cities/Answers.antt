use Rattle.tk_text.specs.ProblemOf.{problem_is}
use Rattle.tk_for_c.proofs.arrays.tourkit_check_cities.Goals as goal

pub returns-in-Ok-clause-given : goal.returns-in-Ok-clause-given
returns-in-Ok-clause-given c = λ done. record {
  p = problem_is c.in-Ok.problem;
  is_problem = c.in-Ok.ensures.ok;
  verdict = c.verdict_of.ensures.given done;
}
