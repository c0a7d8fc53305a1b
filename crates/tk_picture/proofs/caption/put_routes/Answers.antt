use Rattle.tk_writers.proofs.Pieces.Putting.{Puts-then}
use Rattle.tk_picture.proofs.caption.put_routes.Goals as goal

pub returns : goal.returns
returns g c =
    Puts-then (Puts-then c.put_number.ensures c.put.ensures) c.put_number-2.ensures
