use Rattle.tk_writers.proofs.Pieces.Putting.{Puts-then}
use Rattle.tk_outcomes.proofs.lines.labelled.put_labelled.Goals as goal

pub returns : goal.returns
returns g c =
    Puts-then c.put.ensures c.put_number.ensures
