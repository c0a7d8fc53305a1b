use Rattle.tk_writers.proofs.Pieces.Putting.{Puts-then}
use Rattle.tk_outcomes.proofs.PrintedLines.Labels.{Puts-label}
use Rattle.tk_outcomes.proofs.lines.labelled.put_place_line.Goals as goal

pub returns : goal.returns
returns g c =
    Puts-then (Puts-label _ _ c.put_labelled.ensures c.put_labelled-2.ensures) c.put.ensures
