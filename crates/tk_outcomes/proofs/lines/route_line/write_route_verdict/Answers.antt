use Rattle.std.proofs.Common.{rules}
use Rattle.tk_outcomes.proofs.PrintedLines.Labels.{Writes-short}
use Rattle.tk_outcomes.proofs.PrintedLines.RouteLines.{route_line_short}
use Rattle.tk_outcomes.proofs.lines.route_line.write_route_verdict.Goals as goal

pub returns : goal.returns
returns g c =
    Writes-short g.W.Sink c.args.out.now _ _ _ _ _ _ c.new-pen.ensures.empty c.put_route_verdict.ensures
    c.end.ensures (search rules) (route_line_short c.args.verdict)
