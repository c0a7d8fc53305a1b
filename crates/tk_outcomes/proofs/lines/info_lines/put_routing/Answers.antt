use Rattle.tk_writers.proofs.Pieces.Putting.{Puts-then}
use Rattle.tk_outcomes.proofs.lines.info_lines.put_routing.Goals as goal

pub returns : goal.returns
returns g c =
    rw c.in-Some.is (Puts-then (Puts-then (Puts-then c.put_number_line.ensures c.put_number_line-2.ensures)
    c.put_number_line-3.ensures) c.put_number_line-4.ensures)
