use Rattle.tk_writers.proofs.Pieces.Putting.{Puts-then}
use Rattle.tk_writers.proofs.solution_writer.put_solution.Goals as goal

pub returns : goal.returns
returns g c =
    Puts-then c.put_routes.ensures
    (Puts-then c.put.ensures (Puts-then c.put_number.ensures c.put-2.ensures))
