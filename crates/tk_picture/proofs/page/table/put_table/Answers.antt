use Rattle.tk_writers.proofs.Pieces.Putting.{Puts-then}
use Rattle.tk_picture.proofs.page.table.put_table.Goals as goal

pub returns-in-Routes : goal.returns-in-Routes
returns-in-Routes g c =
    let start = rw c.capacity.ensures.value at c.put_table_start.ensures in
    rw c.in-Routes.is (Puts-then (Puts-then start c.put_rows.ensures) c.put.ensures)
