use Rattle.tk_writers.proofs.Pieces.Putting.{Puts-then}
use Rattle.tk_picture.proofs.view.View.put_corner.Goals as goal

pub returns : goal.returns
returns g c =
    Puts-then c.put_spot.ensures c.put.ensures
