use Rattle.tk_writers.proofs.Pieces.Putting.{Puts-then}
use Rattle.tk_picture.proofs.picture.put_picture.Goals as goal

pub returns : goal.returns
returns g c =
    Puts-then (Puts-then (Puts-then (Puts-then (Puts-then c.put_head.ensures c.put_lines.ensures)
    c.put_city_dots.ensures) c.put_route_numbers.ensures) c.put_depot.ensures) c.put.ensures
