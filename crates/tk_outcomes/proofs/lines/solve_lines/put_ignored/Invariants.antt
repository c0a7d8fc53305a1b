-- the keys before this one are put
use Rattle.std.proofs.Common.{take}
use Rattle.std.specs.Prelude.{flat_map}
use Rattle.tk_writers.specs.Pens.{Puts}
use Rattle.tk_outcomes.specs.Lines.SolveLines.{ignored_line}
use Rattle.tk_outcomes.proofs.lines.solve_lines.put_ignored.Given as goal

abbrev pub invariant-loop-i : goal.invariant-loop-i
invariant-loop-i g l =
    Puts g.W.Sink l.initial.pen l.pen (flat_map ignored_line (take l.i l.ignored))
