use Rattle.std.proofs.Common.{subst}
use Rattle.tk_writers.specs.Pens.{Puts}
use Rattle.tk_writers.proofs.Pieces.Putting.{Puts-then}
use Rattle.tk_outcomes.proofs.PrintedLines.Decimals.{fraction_some}
use Rattle.tk_outcomes.proofs.lines.info_lines.put_fraction.Goals as goal

pub returns-then-fraction-gt0 : goal.returns-then-fraction-gt0
returns-then-fraction-gt0 g c =
    subst (Puts _ _ _) (fraction_some c.args.fraction c.if-fraction-gt0.true)
    (Puts-then c.put.ensures c.put_digits.ensures)
