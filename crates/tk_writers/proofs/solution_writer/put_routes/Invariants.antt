-- the routes before this one are put
use Rattle.std.proofs.Common.{take}
use Rattle.std.specs.Prelude.{map}
use Rattle.tk_writers.specs.Pens.{Puts}
use Rattle.tk_writers.specs.SolutionWritten.{written_routes}
use Rattle.tk_writers.proofs.solution_writer.put_routes.Given as goal

abbrev pub invariant-loop-i : goal.invariant-loop-i
invariant-loop-i g l =
    Puts g.W.Sink l.initial.pen l.pen (written_routes 1 (map (λ r. r.items) (take l.i l.routes)))
