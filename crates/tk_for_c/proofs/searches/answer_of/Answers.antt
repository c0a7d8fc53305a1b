use Rattle.std.proofs.Common.{refl}
use Rattle.tk_for_c.proofs.HandedTexts.{both_written}
use Rattle.tk_for_c.proofs.searches.answer_of.Goals as goal

pub returns-in-Ok-clause-given : goal.returns-in-Ok-clause-given
returns-in-Ok-clause-given c =
    rw c.in-Ok.is (both_written c.ended_twice.ensures refl c.hand_out.ensures.needed c.hand_out.ensures.bytes
    c.deref.ensures.value c.hand_out-in-Ok.ensures.needed c.hand_out-in-Ok.ensures.bytes
    c.deref-in-Ok.ensures.value)
