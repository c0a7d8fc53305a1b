use Rattle.std.proofs.Common.{subst, rules}
use Rattle.tk_writers.specs.Pens.{Puts}
use Rattle.tk_writers.proofs.Pieces.Putting.{Puts-then}
use Rattle.tk_outcomes.proofs.PrintedLines.InfoLines.{coordinate_pieces}
use Rattle.tk_outcomes.proofs.lines.info_lines.put_coordinate.Goals as goal

pub returns : goal.returns
returns g c =
    subst (Puts _ _ _)
    (coordinate_pieces c.args.coordinate c.is_negative.result c.unsigned_abs-magnitude.result (search rules)
    (search rules))
    (Puts-then (Puts-then c.put_sign.ensures c.put_number.ensures) c.put_fraction.ensures)
