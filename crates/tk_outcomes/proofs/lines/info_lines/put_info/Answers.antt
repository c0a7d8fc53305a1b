use Rattle.std.proofs.Common.{subst, rules}
use Rattle.tk_writers.specs.Pens.{Puts}
use Rattle.tk_writers.proofs.Pieces.Putting.{Puts-then}
use Rattle.tk_outcomes.proofs.PrintedLines.InfoLines.{info_pieces}
use Rattle.tk_outcomes.proofs.lines.info_lines.put_info.Goals as goal

pub returns : goal.returns
returns g c =
    subst (Puts _ _ _) (info_pieces c.args.info.now c.deref.result.now c.as_bytes.result.now (search rules)
    (search rules)) (Puts-then (Puts-then (Puts-then (Puts-then c.put_text_line.ensures c.put_text_line-2.ensures)
    c.put_number_line.ensures) c.put_distances.ensures) c.put_routing.ensures)
