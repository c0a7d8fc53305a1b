use Rattle.tk_near.proofs.InPlane.RemovedCity.{taken_out}
use Rattle.tk_near.proofs.plane.unvisited.take_from_leaf.Goals as goal

pub returns : goal.returns
returns c =
    let row = c.args.row.now.items in
    let same = c.deref.ensures.value in
    let at = rw same at c.in_ok-i.ensures in
    rw c.swap_remove.ensures.items
    (taken_out c.args.p.now row c.in_ok-i.i c.swap_remove.result at c.swap_remove.ensures.value)
