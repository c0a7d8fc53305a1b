use Rattle.std.proofs.Common.{rules}
use Rattle.tk_outcomes.proofs.PrintedLines.InfoLines.{info_lines_short}
use Rattle.tk_outcomes.proofs.PrintedLines.Labels.{Writes-short}
use Rattle.tk_outcomes.proofs.lines.info_lines.write_info.Goals as goal

pub returns : goal.returns
returns g c =
    Writes-short g.W.Sink c.args.out.now _ _ _ _ _ _ c.new-pen.ensures.empty c.put_info.ensures
    c.end.ensures (search rules) (info_lines_short c.args.info.now)
