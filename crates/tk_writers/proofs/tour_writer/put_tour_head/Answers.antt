use Rattle.std.proofs.Common.{subst}
use Rattle.tk_writers.specs.Pens.{Puts}
use Rattle.tk_writers.proofs.Written.LinePieces.{tour_head-pieces}
use Rattle.tk_writers.proofs.Pieces.Putting.{Puts-then}
use Rattle.tk_writers.proofs.tour_writer.put_tour_head.Goals as goal

pub returns : goal.returns
returns g c =
    subst (Puts _ _ _) (tour_head-pieces c.args.name.now c.args.size c.args.cities)
    (Puts-then c.put.ensures
    (Puts-then c.put-2.ensures
    (Puts-then c.put-3.ensures
    (Puts-then c.put_number.ensures
    (Puts-then c.put-4.ensures
    (Puts-then c.put_number-2.ensures
    (Puts-then c.put-5.ensures
    (Puts-then c.put_number-3.ensures c.put-6.ensures))))))))
