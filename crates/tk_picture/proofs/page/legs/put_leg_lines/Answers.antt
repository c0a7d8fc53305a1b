use Rattle.tk_writers.proofs.Pieces.Putting.{Puts-then}
use Rattle.tk_picture.proofs.page.legs.put_leg_lines.Goals as goal

pub returns-in-Routes : goal.returns-in-Routes
returns-in-Routes g c =
    rw c.in-Routes.is (Puts-then (Puts-then c.put.ensures c.put_routes.ensures) c.put-in-Routes.ensures)
