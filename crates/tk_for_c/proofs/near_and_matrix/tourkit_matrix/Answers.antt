use Rattle.std.proofs.Common.{refl}
use Rattle.tk_engines.specs.MatrixOf.{too_large}
use Rattle.tk_for_c.proofs.HandedTexts.{written}
use Rattle.tk_for_c.proofs.Refusals.{problem_refusal}
use Rattle.tk_for_c.proofs.near_and_matrix.tourkit_matrix.Goals as goal

pub returns-in-Ok-clause-given : goal.returns-in-Ok-clause-given
returns-in-Ok-clause-given c = λ _. (
  c.in-Ok.text.items,
  c.in-Ok.ensures.ok,
  written c.ended.ensures refl c.hand_out.ensures.needed c.hand_out.ensures.bytes c.deref.ensures.value,
)

pub returns-in-Err-clause-refused : goal.returns-in-Err-clause-refused
returns-in-Err-clause-refused c = λ two.
    problem_refusal too_large c.args.problem.now c.stopped.result two c.in-Err.fault c.stopped.ensures.is
    c.in-Err.ensures.err
