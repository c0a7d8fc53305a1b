use Rattle.std.proofs.Common.{arith, rules}
use Rattle.tk_outcomes.proofs.PrintedLines.Labels.{Writes-short}
use Rattle.tk_outcomes.proofs.PrintedLines.LineLengths.{route_run_short}
use Rattle.tk_outcomes.proofs.lines.between_lines.write_route_run_line.Goals as goal

pub returns : goal.returns
returns g c =
    Writes-short g.W.Sink c.args.out.now _ _ _ _ _ _ c.new-pen.ensures.empty c.put_route_run.ensures
    c.end.ensures (search rules) (omega (arith, route_run_short c.args.number c.args.run.now))
