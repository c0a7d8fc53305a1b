use Rattle.std.proofs.Common.{arith}
use Rattle.tk_near.proofs.FlatLists.{AreFilledAmong-front}
use Rattle.tk_near.proofs.near.near_among.Goals as goal

pub from_filled_among-requires-clause-filled : goal.from_filled_among-requires-clause-filled
from_filled_among-requires-clause-filled g c =
    AreFilledAmong-front _ _ _ _ _ _ _ _ _ (omega (arith, c.deref_mut-2.ensures.len, c.fill_by_scan.auto.entries))
    (omega (arith, c.deref_mut.ensures.len, c.in_ok-kept.ensures.len)) c.fill_by_scan.ensures

pub returns : goal.returns
returns g c = c.from_filled_among.ensures
