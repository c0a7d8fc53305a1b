use Rattle.std.proofs.Common.{inl, inr}
use Rattle.tk_text.specs.ProblemOf.{problem_is}
use Rattle.tk_for_c.proofs.tours.tourkit_nearest_tour.Goals as goal

pub returns-in-Ok-clause-given : goal.returns-in-Ok-clause-given
returns-in-Ok-clause-given c = λ done. record {
  p = problem_is c.in-Ok.problem;
  is_problem = c.in-Ok.ensures.ok;
  is = c.nearest_written.ensures.given done;
}

pub returns-in-Ok-clause-room : goal.returns-in-Ok-clause-room
returns-in-Ok-clause-room c = λ full.
    (problem_is c.in-Ok.problem, c.in-Ok.ensures.ok, c.nearest_written.ensures.room full)

pub returns-in-Ok-clause-refused : goal.returns-in-Ok-clause-refused
returns-in-Ok-clause-refused c = λ two. inr (record {
  p = problem_is c.in-Ok.problem;
  is_problem = c.in-Ok.ensures.ok;
  none = c.nearest_written.ensures.outside two;
  reported = c.nearest_written.ensures.refused two;
})

pub returns-in-Err-clause-refused : goal.returns-in-Err-clause-refused
returns-in-Err-clause-refused c = λ two. inl (c.in-Err.ensures.refused two)
