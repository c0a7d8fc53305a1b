use Rattle.tk_text.specs.ProblemOf.{problem_is}
use Rattle.tk_for_c.proofs.arrays.tourkit_distances.Goals as goal

pub returns-in-Ok-clause-given : goal.returns-in-Ok-clause-given
returns-in-Ok-clause-given c = λ done. record {
  p = problem_is c.in-Ok.problem;
  is_problem = c.in-Ok.ensures.ok;
  are = c.distances_of.ensures.given done;
}

pub returns-in-Ok-clause-room : goal.returns-in-Ok-clause-room
returns-in-Ok-clause-room c = λ full.
    (problem_is c.in-Ok.problem, c.in-Ok.ensures.ok, c.distances_of.ensures.room full)
