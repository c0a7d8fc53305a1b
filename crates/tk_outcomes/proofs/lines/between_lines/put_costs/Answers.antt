use Rattle.std.proofs.Common.{◌≡◌, ℕ, ap, rules, subst, ◌++◌}
use Rattle.std.specs.Prelude.{codes, decimal}
use Rattle.std.specs.Int.RustNames.{unsigned_abs}
use Rattle.tk_writers.specs.Pens.{Puts}
use Rattle.tk_writers.proofs.Pieces.Putting.{Puts-then}
use Rattle.tk_outcomes.proofs.PrintedLines.Labels.{Puts-label}
use Rattle.tk_outcomes.proofs.lines.between_lines.put_costs.Goals as goal

pub returns : goal.returns
returns g c =
    let start : c.unsigned_abs.result ≡ unsigned_abs c.args.run.now.totals.start = search rules in
    let best : c.unsigned_abs-2.result ≡ unsigned_abs c.args.run.now.best = search rules in
    Puts-then (Puts-label _ _ c.put_labelled.ensures
    (subst (Puts _ _ _) (ap (λ (n : ℕ). codes ": start " ++ decimal n) start) c.put_labelled-2.ensures))
    (rw best at c.put_routes.ensures)
