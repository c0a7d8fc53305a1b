use Rattle.std.proofs.Common.{ℕ, ◌*◌, ◌+◌, ◌<◌, ◌≤◌, arith, subst, sym}
use Rattle.std.proofs.lemmas.Grind.{div_ceil_times}
use Rattle.tk_problem.specs.Places.{scale}
use Rattle.tk_distance.proofs.ExactRoots.Covering.{least_along}
use Rattle.tk_distance.proofs.ExactRoots.Rounding.{nearest_along}
use Rattle.tk_distance.proofs.exact.fine.floor_distance.Goals as goal

pub returns-in-Euc2d : goal.returns-in-Euc2d
returns-in-Euc2d c =
    rw c.in-Euc2d.is (nearest_along c.args.dx c.rounded_length.result c.rounded_length.ensures)

pub returns-in-Ceil2d : goal.returns-in-Ceil2d
returns-in-Ceil2d c =
    let b = div_ceil_times c.args.dx scale (omega arith) in
    rw c.in-Ceil2d.is (least_along c.args.dx c.div_ceil.result
    (subst (λ (d : ℕ). c.args.dx ≤ d * scale) (sym c.div_ceil.ensures) b.0)
    (subst (λ (d : ℕ). d * scale < c.args.dx + scale) (sym c.div_ceil.ensures) b.1))
