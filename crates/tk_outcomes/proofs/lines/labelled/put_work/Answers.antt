use Rattle.tk_writers.proofs.Pieces.Putting.{Puts-then}
use Rattle.tk_outcomes.proofs.lines.labelled.put_work.Goals as goal

pub returns : goal.returns
returns g c =
    Puts-then (Puts-then (Puts-then (Puts-then (Puts-then c.put.ensures c.put_wide.ensures)
    c.put-2.ensures) c.put_wide-2.ensures) c.put-3.ensures) c.put_wide-3.ensures
