use Rattle.std.proofs.Common.{arith, refl}
use Rattle.tk_text.specs.Solution.{solution_texts}
use Rattle.tk_for_c.specs.Answers.{NoFault}
use Rattle.tk_for_c.specs.Texts.{HasFault}
use Rattle.tk_for_c.proofs.Refusals.{faulty, right_refusal}
use Rattle.tk_for_c.proofs.check.tourkit_checksol.Goals as goal

pub returns-in-Err-clause-refused : goal.returns-in-Err-clause-refused
returns-in-Err-clause-refused c = λ two.
    right_refusal _ _ _ _ (omega arith) _ _ NoFault (λ _. HasFault solution_texts c.args.solution.now) two
    (λ p f h is. elim h [ ]) (λ p f h is. faulty _ _ _ f _ two refl is h)
    c.in-Err.fault c.stopped.ensures.is c.in-Err.ensures.err
