use Rattle.tk_writers.proofs.Pieces.Putting.{Puts-then}
use Rattle.tk_picture.proofs.route_lines.put_parted.Goals as goal

pub returns : goal.returns
returns g c =
    let start = rw c.size.ensures.value at c.put_pale_start.ensures in
    Puts-then (Puts-then (Puts-then start c.put_routes.ensures) c.put.ensures) c.put_routes-2.ensures
