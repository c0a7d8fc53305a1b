use Rattle.tk_writers.proofs.Pieces.Putting.{Puts-then}
use Rattle.tk_outcomes.proofs.lines.between_lines.put_routes_line.Goals as goal

pub returns : goal.returns
returns g c = Puts-then c.put_routes.ensures c.put.ensures
