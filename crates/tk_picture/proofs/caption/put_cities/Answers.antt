use Rattle.tk_writers.proofs.Pieces.Putting.{Puts-then}
use Rattle.tk_picture.proofs.caption.put_cities.Goals as goal

pub returns : goal.returns
returns g c =
    Puts-then c.put_number.ensures c.put.ensures
