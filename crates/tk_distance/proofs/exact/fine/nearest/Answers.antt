use Rattle.std.proofs.Common.{◌≤◌, ◌*◌, ℕ, subst}
use Rattle.tk_distance.proofs.ExactRoots.Rounding.{nearest_between}
use Rattle.tk_distance.proofs.exact.fine.nearest.Goals as goal

pub returns-then-square-high : goal.returns-then-square-high
returns-then-square-high c =
    nearest_between c.args.square c.rounded-guess.result
    (subst (λ (x : ℕ). x * x ≤ c.args.square) c.saturating_sub-low.ensures c.if-low-square.true)
    c.if-square-high.true
