use Rattle.std.proofs.Common.{◌*◌, ◌∙◌, ap, subst, ℕ}
use Rattle.tk_problem.specs.Places.{scale}
use Rattle.tk_problem.specs.Units.{step_of}
use Rattle.tk_distance.specs.Distance.{Covers, IsGreatest, IsLeast, Reaches}
use Rattle.tk_distance.proofs.ExactRoots.Units.{covered_in, max-in, rounded_in, sum-in, tenth_covered_in}
use Rattle.tk_distance.proofs.exact.whole.whole_distance.Goals as goal

pub returns-in-Euc2d : goal.returns-in-Euc2d
returns-in-Euc2d c =
    rw c.in-Euc2d.is (rounded_in c.args.unit c.args.dx c.args.dy c.square_of.result c.square_of.ensures.value
    c.rounding_square.result c.nearest.result c.rounding_square.ensures.alike c.nearest.ensures)

pub returns-in-Ceil2d : goal.returns-in-Ceil2d
returns-in-Ceil2d c =
    rw c.in-Ceil2d.is (covered_in c.args.unit c.args.dx c.args.dy c.square_of-in-Ceil2d.result
    c.square_of-in-Ceil2d.ensures.value c.covering_square.result c.ceiling.result c.covering_square.ensures.covers
    c.ceiling.ensures)

pub returns-in-Man2d : goal.returns-in-Man2d
returns-in-Man2d c =
    rw c.in-Man2d.is (subst (λ (l : ℕ). IsGreatest (Reaches l) c.rounded_length.result)
    (sum-in c.args.unit c.args.dx c.args.dy) c.rounded_length.ensures.nearest)

pub returns-in-Max2d : goal.returns-in-Max2d
returns-in-Max2d c =
    rw c.in-Max2d.is (subst (λ (l : ℕ). IsGreatest (Reaches l) c.rounded_length-in-Max2d.result)
    (ap (λ l. l * step_of c.args.unit) c.max.ensures ∙ max-in c.args.unit c.args.dx c.args.dy)
    c.rounded_length-in-Max2d.ensures.nearest)

pub returns-in-Att : goal.returns-in-Att
returns-in-Att c =
    let least = subst (λ (s : ℕ). IsLeast (Covers 1 (s * (scale * scale))) c.ceiling-in-Att.result) c.div_ceil.ensures
    c.ceiling-in-Att.ensures in
    rw c.in-Att.is (tenth_covered_in c.args.unit c.args.dx c.args.dy c.square_of-in-Att.result
    c.square_of-in-Att.ensures.value c.covering_square-in-Att.result c.ceiling-in-Att.result
    c.covering_square-in-Att.ensures.covers least)
