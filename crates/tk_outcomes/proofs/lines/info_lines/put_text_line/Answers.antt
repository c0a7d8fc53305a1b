use Rattle.tk_writers.proofs.Pieces.Putting.{Puts-then}
use Rattle.tk_outcomes.proofs.lines.info_lines.put_text_line.Goals as goal

pub returns : goal.returns
returns g c =
    Puts-then (Puts-then c.put.ensures c.put-2.ensures) c.put-3.ensures
