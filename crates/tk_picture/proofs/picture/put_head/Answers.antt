use Rattle.tk_writers.proofs.Pieces.Putting.{Puts-then}
use Rattle.tk_picture.proofs.picture.put_head.Goals as goal

pub returns : goal.returns
returns g c =
    Puts-then
    (Puts-then
    (Puts-then
    (Puts-then (rw c.view_height.ensures at c.put_view_line.ensures) c.put_title_line.ensures)
    c.put.ensures)
    c.put_heading_line.ensures)
    (rw c.size.ensures.value at c.put_group_line.ensures)
