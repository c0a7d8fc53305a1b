use Rattle.tk_writers.proofs.Pieces.Putting.{Puts-then}
use Rattle.tk_picture.proofs.route_lines.put_whole.Goals as goal

pub returns : goal.returns
returns g c =
    Puts-then (Puts-then c.put_closed_start.ensures c.put_stops.ensures) c.put.ensures
