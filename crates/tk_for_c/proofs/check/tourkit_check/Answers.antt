use Rattle.std.proofs.Common.{arith, refl}
use Rattle.tk_text.specs.Tour.{tour_texts}
use Rattle.tk_for_c.specs.Answers.{NoFault}
use Rattle.tk_for_c.specs.Texts.{HasFault}
use Rattle.tk_for_c.proofs.Refusals.{faulty, right_refusal}
use Rattle.tk_for_c.proofs.check.tourkit_check.Goals as goal

pub returns-in-Err-clause-refused : goal.returns-in-Err-clause-refused
returns-in-Err-clause-refused c = λ two.
    right_refusal _ _ _ _ (omega arith) _ _ (λ _. HasFault tour_texts c.args.tour.now) NoFault two
    (λ p f h is. faulty _ _ _ f _ two refl is h) (λ p f h is. elim h [ ])
    c.in-Err.fault c.stopped.ensures.is c.in-Err.ensures.err
