use Rattle.std.proofs.Common.{refl, subst}
use Rattle.tk_near.specs.ListLengths.{IsListLength}
use Rattle.tk_for_c.specs.Answers.{fits_any}
use Rattle.tk_for_c.proofs.HandedTexts.{written}
use Rattle.tk_for_c.proofs.Refusals.{problem_refusal}
use Rattle.tk_for_c.proofs.near_and_matrix.tourkit_near.Goals as goal
use Rattle.tk_for_c.specs.Texts.{IsNearTextOf}

pub returns-in-Ok-clause-given : goal.returns-in-Ok-clause-given
returns-in-Ok-clause-given c = λ _. (
  c.in-Ok.text.items,
  subst (λ k. IsNearTextOf k c.args.problem.now c.in-Ok.text.items) c.in-Some.ensures.some c.in-Ok.ensures.ok,
  written c.ended-in-Ok.ensures refl c.hand_out-in-Ok.ensures.needed c.hand_out-in-Ok.ensures.bytes
      c.deref.ensures.value,
)

pub returns-in-Err-clause-refused : goal.returns-in-Err-clause-refused
returns-in-Err-clause-refused c = λ two _.
    problem_refusal fits_any c.args.problem.now c.stopped.result two c.in-Err.fault c.stopped.ensures.is
    c.in-Err.ensures.err

pub returns-in-Err-clause-outside : goal.returns-in-Err-clause-outside
returns-in-Err-clause-outside c = λ none.
    absurd (none (subst IsListLength c.in-Some.ensures.some c.in-Some.candidates.within))
