use Rattle.tk_writers.proofs.Pieces.Putting.{Puts-then}
use Rattle.tk_picture.proofs.view.View.put_stops.Goals as goal

pub returns : goal.returns
returns g c =
    Puts-then (rw c.depot.ensures.value at c.put_corner.ensures) c.put_customers.ensures
