use Rattle.std.specs.Prelude.{codes}
use Rattle.tk_writers.proofs.Pieces.Putting.{Puts-then}
use Rattle.tk_picture.proofs.PutLine.{Puts-both}
use Rattle.tk_picture.proofs.page.table.put_table_start.Goals as goal

pub returns : goal.returns
returns g c =
    Puts-then
    (Puts-both (codes "</caption>") _ (Puts-then c.put.ensures c.put_number.ensures)
    c.put-2.ensures)
    c.put_table_head.ensures
