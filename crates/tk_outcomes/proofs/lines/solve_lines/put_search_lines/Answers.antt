use Rattle.tk_writers.proofs.Pieces.Putting.{Puts-then}
use Rattle.tk_outcomes.proofs.lines.solve_lines.put_search_lines.Goals as goal

pub returns-in-Between : goal.returns-in-Between
returns-in-Between g c = rw c.in-Between.is (Puts-then c.put_ignored.ensures c.put_between_lines.ensures)
