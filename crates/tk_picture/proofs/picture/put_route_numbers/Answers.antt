use Rattle.tk_writers.proofs.Pieces.Putting.{Puts-then}
use Rattle.tk_picture.proofs.picture.put_route_numbers.Goals as goal

pub returns-in-Routes : goal.returns-in-Routes
returns-in-Routes g c =
    let start = rw c.size.ensures.value at c.put_numbers_start.ensures in
    let halo = rw c.size-in-Routes.ensures.value at c.put_halo_start.ensures in
    let outlined = Puts-then (Puts-then (Puts-then start halo) c.put_numbers.ensures) c.put.ensures in
    rw c.in-Routes.is (Puts-then (Puts-then outlined c.put_numbers-in-Routes.ensures) c.put-in-Routes.ensures)
