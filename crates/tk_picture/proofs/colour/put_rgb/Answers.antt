use Rattle.tk_writers.proofs.Pieces.Putting.{Puts-then}
use Rattle.tk_picture.proofs.colour.put_rgb.Goals as goal

pub returns : goal.returns
returns g c =
    Puts-then (Puts-then (Puts-then (Puts-then (Puts-then (Puts-then c.put.ensures c.put_number.ensures)
    c.put-2.ensures) c.put_number-2.ensures) c.put-3.ensures) c.put_number-3.ensures) c.put-4.ensures
