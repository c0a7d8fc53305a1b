use Rattle.std.proofs.Common.{subst}
use Rattle.tk_writers.specs.Pens.{Puts}
use Rattle.tk_writers.proofs.Pieces.Putting.{Puts-then}
use Rattle.tk_picture.proofs.PutLine.{Puts-both}
use Rattle.tk_picture.proofs.numbers.put_halo_start.Goals as goal

pub returns : goal.returns
returns g c =
    Puts-both _ _
    (Puts-then c.put.ensures (subst (Puts _ _ _) c.by_size.ensures c.put-2.ensures))
    c.put-3.ensures
