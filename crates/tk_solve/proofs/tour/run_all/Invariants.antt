use Rattle.std.proofs.Common.{◌≡◌, List, length}
use Rattle.tk_solve.specs.Outcomes.{AreKept}
use Rattle.tk_solve.specs.Runs.{Run, shown_of}
use Rattle.tk_solve.specs.Starts.{task_of}
use Rattle.tk_solve.specs.Watching.{WereShown}
use Rattle.tk_solve.proofs.tour.run_all.Given as goal

abbrev pub invariant-loop-j : goal.invariant-loop-j
invariant-loop-j g l =
    (runs : List Run) × (length runs ≡ l.j)
    × (AreKept (task_of l.table l.options) l.near runs l.outcome × WereShown g.W.Watch.shows l.initial.watch l.watch
    (shown_of runs))
