use Rattle.tk_writers.proofs.Pieces.Putting.{Puts-then}
use Rattle.tk_picture.proofs.route_lines.put_between.Goals as goal

pub returns : goal.returns
returns g c =
    Puts-then (Puts-then c.put_open_start.ensures c.put_customers.ensures) c.put.ensures
