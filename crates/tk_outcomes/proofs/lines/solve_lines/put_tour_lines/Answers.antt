use Rattle.std.proofs.Common.{◌≡◌, rules}
use Rattle.std.specs.Int.RustNames.{unsigned_abs}
use Rattle.tk_writers.proofs.Pieces.Putting.{Puts-then}
use Rattle.tk_outcomes.proofs.lines.solve_lines.put_tour_lines.Goals as goal

pub returns : goal.returns
returns g c =
    let size : c.unsigned_abs.result ≡ unsigned_abs c.args.solved.now.length = search rules in
    Puts-then (Puts-then c.put_ignored.ensures (rw c.deref.ensures.value at c.put_runs.ensures))
    (rw size at c.put_best.ensures)
