use Rattle.tk_text.specs.ProblemOf.{problem_is}
use Rattle.tk_for_c.proofs.arrays.tourkit_near_cities.Goals as goal

pub returns-in-Ok-clause-given : goal.returns-in-Ok-clause-given
returns-in-Ok-clause-given c = λ done. record {
  p = problem_is c.in-Ok.problem;
  is_problem = c.in-Ok.ensures.ok;
  are = rw c.in-Some.ensures.some at (c.near_of.ensures.given done);
}

pub returns-in-Ok-clause-room : goal.returns-in-Ok-clause-room
returns-in-Ok-clause-room c = λ full.
    (problem_is c.in-Ok.problem, c.in-Ok.ensures.ok, rw c.in-Some.ensures.some at (c.near_of.ensures.room full))

pub returns-in-Ok-clause-outside : goal.returns-in-Ok-clause-outside
returns-in-Ok-clause-outside c = λ none. absurd (none (rw c.in-Some.ensures.some at c.in-Some.candidates.within))
