use Rattle.tk_writers.proofs.Pieces.Putting.{Puts-then}
use Rattle.tk_picture.proofs.picture.put_group_start.Goals as goal

pub returns : goal.returns
returns g c =
    let across = rw c.drawn_from_left.ensures at c.put_wide.ensures in
    let down = rw c.drawn_from_top.ensures at c.put_wide-2.ensures in
    Puts-then (Puts-then (Puts-then c.put.ensures across) c.put-2.ensures) down
