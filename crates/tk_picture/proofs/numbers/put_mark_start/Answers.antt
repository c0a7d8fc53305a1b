use Rattle.tk_writers.proofs.Pieces.Putting.{Puts-then}
use Rattle.tk_picture.proofs.numbers.put_mark_start.Goals as goal

pub returns : goal.returns
returns g c =
    Puts-then (Puts-then c.put.ensures c.put_spot.ensures) c.put-2.ensures
