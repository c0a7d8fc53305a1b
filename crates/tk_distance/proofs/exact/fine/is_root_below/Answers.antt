use Rattle.std.proofs.Common.{arith, ◌*◌, ◌<◌, ◌↔◌, ℕ, subst, sym}
use Rattle.std.proofs.lemmas.Bool.Decides.{nat_tests}
use Rattle.tk_distance.proofs.ExactRoots.Rounding.{fine_root_below}
use Rattle.tk_distance.proofs.exact.fine.is_root_below.Goals as goal

pub returns : goal.returns
returns c = λ d is.
    let end = c.saturating_sub-end.result in
    let test = subst (λ (x : ℕ). (c.args.square < x * x) ↔ (d < c.args.bound)) (sym c.saturating_sub-end.ensures)
    (fine_root_below c.args.square d c.args.bound is) in
    (λ yes. test.0 (grind (arith, nat_tests, yes)), λ below. let low = test.1 below in grind (arith, nat_tests, low))
