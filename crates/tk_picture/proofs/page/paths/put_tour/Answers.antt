use Rattle.tk_writers.proofs.Pieces.Putting.{Puts-then}
use Rattle.tk_picture.proofs.page.paths.put_tour.Goals as goal

pub returns : goal.returns
returns g c =
    Puts-then c.put_spaced.ensures c.put.ensures
