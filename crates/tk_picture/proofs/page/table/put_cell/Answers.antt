use Rattle.tk_writers.proofs.Pieces.Putting.{Puts-then}
use Rattle.tk_picture.proofs.page.table.put_cell.Goals as goal

pub returns : goal.returns
returns g c =
    Puts-then c.put.ensures c.put_number.ensures
