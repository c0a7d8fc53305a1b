use Rattle.std.proofs.Common.{subst}
use Rattle.tk_writers.specs.Pens.{Puts}
use Rattle.tk_writers.proofs.Written.LinePieces.{route_line-pieces}
use Rattle.tk_writers.proofs.Pieces.Putting.{Puts-then}
use Rattle.tk_writers.proofs.solution_writer.put_route.Goals as goal

pub returns : goal.returns
returns g c =
    subst (Puts _ _ _) (route_line-pieces c.args.number c.args.customers.now)
    (Puts-then c.put.ensures
    (Puts-then c.put_number.ensures
    (Puts-then c.put-2.ensures
    (Puts-then c.put_spaced.ensures c.put-3.ensures))))
