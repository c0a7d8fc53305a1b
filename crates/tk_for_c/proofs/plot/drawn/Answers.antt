use Rattle.std.proofs.Common.{◌∙◌, arith, inl, inr, refl}
use Rattle.tk_for_c.specs.Plotted.{IsSolutionFault, IsTourFault}
use Rattle.tk_for_c.proofs.HandedTexts.{both_written}
use Rattle.tk_for_c.proofs.Refusals.{faulty, right_refusal}
use Rattle.tk_for_c.proofs.plot.drawn.Goals as goal

pub returns-in-Ok-clause-given : goal.returns-in-Ok-clause-given
returns-in-Ok-clause-given c = λ _.
    let given = c.in-Ok.ensures.ok in (
      c.in-Ok.done,
      given.0,
      given.1,
      both_written c.ended_twice.ensures c.status_of.ensures c.hand_out.ensures.needed c.hand_out.ensures.bytes
          (c.deref.ensures.value ∙ given.2) c.hand_out-in-Ok.ensures.needed c.hand_out-in-Ok.ensures.bytes
          (c.deref-in-Ok.ensures.value ∙ given.3),
    )

pub returns-in-Err-clause-refused : goal.returns-in-Err-clause-refused
returns-in-Err-clause-refused c = λ two.
    let given = c.args.has_claim in
    let claim = c.args.claim.now in
    right_refusal _ _ _ _ (omega arith) _ _ (IsTourFault given claim) (IsSolutionFault given claim) two
    (λ p f h is. (h.0, inl (h.1, faulty _ _ _ f _ two refl is h.2)))
    (λ p f h is. (h.0, inr (h.1, faulty _ _ _ f _ two refl is h.2)))
    c.in-Err.fault c.stopped.ensures.is c.in-Err.ensures.err
