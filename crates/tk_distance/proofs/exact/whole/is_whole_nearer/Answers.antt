use Rattle.std.proofs.lemmas.Grind.{common_steps}
use Rattle.std.proofs.lemmas.Bool.Decides.{nat_tests}
use Rattle.std.proofs.Common.{arith}
use Rattle.tk_distance.proofs.PlaneReads.{euclid_root}
use Rattle.tk_distance.proofs.exact.whole.is_whole_nearer.Goals as goal

pub returns-in-Euc2d : goal.returns-in-Euc2d
returns-in-Euc2d c = λ d is.
    let test = c.square_at.ensures c.square_between.result d c.square_between.ensures.bound
    (euclid_root c.args.kind c.args.unit c.args.p c.args.q c.square_between.result d c.in-Euc2d.is
    c.square_between.ensures.value is) in
    (λ yes. test.0 (grind (arith, nat_tests, yes)), λ below. let low = test.1 below in grind (arith, nat_tests, low))

pub returns : goal.returns
returns c = grind (arith, common_steps)
