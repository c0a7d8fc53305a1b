use Rattle.std.proofs.Common.{arith}
use Rattle.tk_near.proofs.FlatLists.{AreFilledAmong-front}
use Rattle.tk_near.proofs.plane.sweep.near_sweep.Goals as goal

pub from_filled-requires-clause-filled : goal.from_filled-requires-clause-filled
from_filled-requires-clause-filled g c =
    AreFilledAmong-front _ _ _ _ _ _ _ _ _ (omega (arith, c.deref_mut-2.ensures.len, c.fill_lists.auto.entries))
    (omega (arith, c.deref_mut.ensures.len, c.in_ok-kept.ensures.len)) c.fill_lists.ensures
