use Rattle.std.proofs.Common.{◌≡◌, length, rules}
use Rattle.std.specs.Int.RustNames.{unsigned_abs}
use Rattle.tk_writers.proofs.Pieces.Putting.{Puts-then}
use Rattle.tk_outcomes.proofs.lines.between_lines.put_between_lines.Goals as goal

pub returns : goal.returns
returns g c =
    let start : c.unsigned_abs-start.result ≡ unsigned_abs c.args.solved.now.start = search rules in
    let best : c.unsigned_abs-best.result ≡ unsigned_abs c.args.solved.now.cost = search rules in
    let count : c.len.result ≡ length c.args.solved.now.routes.items = search rules in
    Puts-then (Puts-then (rw start at c.put_start.ensures) (rw c.deref.ensures.value at c.put_route_runs.ensures))
    (rw count at (rw best at c.put_routes_line.ensures))
