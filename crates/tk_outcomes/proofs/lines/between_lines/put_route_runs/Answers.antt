use Rattle.std.proofs.Common.{subst, sym}
use Rattle.tk_writers.specs.Pens.{Puts}
use Rattle.tk_outcomes.specs.Lines.BetweenLines.{route_run_line}
use Rattle.tk_outcomes.proofs.PrintedLines.RunLines.{numbered_take}
use Rattle.tk_writers.proofs.Pieces.Putting.{Puts-then}
use Rattle.tk_outcomes.proofs.lines.between_lines.put_route_runs.Goals as goal

pub loop-i-preserved : goal.loop-i-preserved
loop-i-preserved g c =
    subst (Puts _ _ _) (sym (numbered_take route_run_line c.args.runs.now c.loop-i.i _ c.loop-i-test.true))
    (Puts-then c.loop-i.invariant c.put_route_run.ensures)
