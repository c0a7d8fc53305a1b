use Rattle.tk_writers.proofs.Pieces.Putting.{Puts-then}
use Rattle.tk_outcomes.proofs.lines.solve_lines.put_best.Goals as goal

pub returns : goal.returns
returns g c =
    Puts-then c.put_labelled.ensures c.put.ensures
