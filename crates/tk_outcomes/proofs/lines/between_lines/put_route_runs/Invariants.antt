-- the runs before this one are put
use Rattle.std.proofs.Common.{take}
use Rattle.tk_writers.specs.Pens.{Puts}
use Rattle.tk_outcomes.specs.Lines.BetweenLines.{route_run_line}
use Rattle.tk_outcomes.specs.Lines.Parts.{numbered}
use Rattle.tk_outcomes.proofs.lines.between_lines.put_route_runs.Given as goal

abbrev pub invariant-loop-i : goal.invariant-loop-i
invariant-loop-i g l = Puts g.W.Sink l.initial.pen l.pen (numbered route_run_line 1 (take l.i l.runs))
