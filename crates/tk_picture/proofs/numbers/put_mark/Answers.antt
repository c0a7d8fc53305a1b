use Rattle.tk_writers.proofs.Pieces.Putting.{Puts-then}
use Rattle.tk_picture.proofs.PutLine.{Puts-both}
use Rattle.tk_picture.proofs.numbers.put_mark.Goals as goal

pub returns : goal.returns
returns g c =
    Puts-both _ _
    (Puts-then
    (Puts-then (Puts-then c.put_mark_start.ensures c.put_colour.ensures) c.put.ensures)
    c.put_number.ensures)
    c.put-2.ensures
