use Rattle.tk_picture.proofs.PutLine.{Puts-both}
use Rattle.tk_outcomes.proofs.PrintedLines.Labels.{Puts-label}
use Rattle.tk_outcomes.proofs.lines.tour_line.put_count_line.Goals as goal

pub returns : goal.returns
returns g c =
    Puts-both _ _ (Puts-label _ _ c.put_labelled.ensures c.put_labelled-2.ensures) c.put.ensures
