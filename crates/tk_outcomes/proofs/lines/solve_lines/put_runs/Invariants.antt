-- the runs before this one are put
use Rattle.std.proofs.Common.{take}
use Rattle.tk_writers.specs.Pens.{Puts}
use Rattle.tk_outcomes.specs.Lines.SolveLines.{run_lines}
use Rattle.tk_outcomes.proofs.lines.solve_lines.put_runs.Given as goal

abbrev pub invariant-loop-i : goal.invariant-loop-i
invariant-loop-i g l = Puts g.W.Sink l.initial.pen l.pen (run_lines 1 (take l.i l.runs))
