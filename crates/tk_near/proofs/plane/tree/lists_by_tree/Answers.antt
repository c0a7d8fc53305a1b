use Rattle.std.proofs.Common.{◌∙◌, ap, arith, length}
use Rattle.std.proofs.lemmas.List.{length-replicate}
use Rattle.tk_near.specs.Keeping.{empty_slot}
use Rattle.tk_near.proofs.FlatLists.{AreFilledAmong-front}
use Rattle.tk_near.proofs.plane.tree.lists_by_tree.Goals as goal

pub from_filled_among-requires-clause-filled : goal.from_filled_among-requires-clause-filled
from_filled_among-requires-clause-filled g c =
    AreFilledAmong-front _ _ _ _ _ _ _ _ _ (omega (arith, c.deref_mut.ensures.len, c.fill_from_tree.auto.entries))
    (ap length c.in_ok-many.ensures ∙ length-replicate c.args.k empty_slot)
    (rw c.requires.tree.count at c.fill_from_tree.ensures)
