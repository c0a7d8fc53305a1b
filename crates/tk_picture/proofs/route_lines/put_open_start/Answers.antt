use Rattle.tk_writers.proofs.Pieces.Putting.{Puts-then}
use Rattle.tk_picture.proofs.PutLine.{Puts-both}
use Rattle.tk_picture.proofs.route_lines.put_open_start.Goals as goal

pub returns : goal.returns
returns g c =
    Puts-both _ _ (Puts-then c.put.ensures c.put_colour.ensures) c.put-2.ensures
