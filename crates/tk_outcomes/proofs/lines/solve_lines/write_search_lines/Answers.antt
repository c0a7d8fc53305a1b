use Rattle.std.proofs.Common.{rules}
use Rattle.tk_outcomes.proofs.PrintedLines.Labels.{Writes-short}
use Rattle.tk_outcomes.proofs.PrintedLines.LineLengths.{search_lines_short}
use Rattle.tk_outcomes.proofs.lines.solve_lines.write_search_lines.Goals as goal

pub returns : goal.returns
returns g c =
    Writes-short g.W.Sink c.args.out.now _ _ _ _ _ _ c.new-pen.ensures.empty c.put_search_lines.ensures
    c.end.ensures (search rules) (search_lines_short c.args.ignored.now c.args.outcome.now c.requires)
