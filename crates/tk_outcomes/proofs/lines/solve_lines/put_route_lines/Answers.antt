use Rattle.std.proofs.Common.{◌≡◌, rules}
use Rattle.std.specs.Int.RustNames.{unsigned_abs}
use Rattle.tk_writers.proofs.Pieces.Putting.{Puts-then}
use Rattle.tk_outcomes.proofs.lines.solve_lines.put_route_lines.Goals as goal

pub returns : goal.returns
returns g c =
    let report = c.args.report.now in
    let before : c.unsigned_abs.result ≡ unsigned_abs report.before = search rules in
    let after : c.unsigned_abs-2.result ≡ unsigned_abs report.after = search rules in
    let best : c.unsigned_abs-3.result ≡ unsigned_abs report.after = search rules in
    Puts-then (Puts-then (Puts-then c.put_ignored.ensures (rw before at c.put_savings.ensures))
    (rw after at c.put_improved.ensures)) (rw best at c.put_best.ensures)
