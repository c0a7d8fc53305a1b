use Rattle.tk_writers.proofs.Pieces.Putting.{Puts-then}
use Rattle.tk_picture.proofs.page.put_opening.Goals as goal

pub returns : goal.returns
returns g c =
    Puts-then (Puts-then (Puts-then (Puts-then (Puts-then (Puts-then (Puts-then c.put.ensures c.put-2.ensures)
    c.put-3.ensures) c.put_title_line.ensures) c.put-4.ensures) c.put_heading.ensures) c.put_verdict.ensures)
    c.put-5.ensures
