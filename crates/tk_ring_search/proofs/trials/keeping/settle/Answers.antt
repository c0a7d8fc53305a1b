use Rattle.std.proofs.Common.{refl}
use Rattle.tk_ring_search.proofs.trials.keeping.settle.Goals as goal

pub returns-in-Undone-clause-settles : goal.returns-in-Undone-clause-settles
returns-in-Undone-clause-settles g c =
    rw c.in-Undone.is (c.rewind.ensures.order (c.rewind.ensures.lost.1 (c.requires.room c.in-Undone.is)), refl)
