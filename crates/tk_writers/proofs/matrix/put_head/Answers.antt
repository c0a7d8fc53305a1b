use Rattle.std.proofs.Common.{subst, rules}
use Rattle.tk_writers.specs.Pens.{Puts}
use Rattle.tk_writers.proofs.MatrixLines.{matrix_head-pieces}
use Rattle.tk_writers.proofs.Pieces.Putting.{Puts-then}
use Rattle.tk_writers.proofs.matrix.put_head.Goals as goal

pub returns : goal.returns
returns g c =
    subst (Puts _ _ _)
    (matrix_head-pieces c.args.name.now c.args.n c.args.f c.as_bytes.result.now (search rules))
    (Puts-then c.put.ensures
    (Puts-then c.put-2.ensures
    (Puts-then c.put-3.ensures
    (Puts-then c.put_number.ensures
    (Puts-then c.put-4.ensures
    (Puts-then c.put-5.ensures c.put-6.ensures))))))
