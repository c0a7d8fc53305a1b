use Rattle.std.proofs.Common.{◌∙◌, inl, inr, sym, subst}
use Rattle.tk_text.specs.ProblemOf.{problem_is}
use Rattle.tk_for_c.proofs.contents.tourkit_weights.Goals as goal
use Rattle.tk_for_c.specs.Contents.{IsCounted, IsLack}

pub returns-in-Ok-clause-given : goal.returns-in-Ok-clause-given
returns-in-Ok-clause-given c = λ done. record {
  p = problem_is c.in-Ok.problem;
  is_problem = c.in-Ok.ensures.ok;
  is = sym c.weights_of.ensures ∙ c.list_written.ensures.given done;
}

pub returns-in-Ok-clause-room : goal.returns-in-Ok-clause-room
returns-in-Ok-clause-room c = λ full. record {
  p = problem_is c.in-Ok.problem;
  is_problem = c.in-Ok.ensures.ok;
  is = subst (λ list. IsCounted list c.list_written.result) c.weights_of.ensures (c.list_written.ensures.room full);
}

pub returns-in-Ok-clause-refused : goal.returns-in-Ok-clause-refused
returns-in-Ok-clause-refused c = λ two. inr (record {
  p = problem_is c.in-Ok.problem;
  is_problem = c.in-Ok.ensures.ok;
  is = subst (λ list. IsLack list 28 c.list_written.result) c.weights_of.ensures (c.list_written.ensures.lack two);
})

pub returns-in-Err-clause-refused : goal.returns-in-Err-clause-refused
returns-in-Err-clause-refused c = λ two. inl (c.in-Err.ensures.refused two)
