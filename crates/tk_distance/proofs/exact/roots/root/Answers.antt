use Rattle.std.proofs.lemmas.Grind.{common_steps}
use Rattle.std.proofs.Common.{arith}
use Rattle.tk_distance.proofs.ExactRoots.RootLemmas.{root_between}
use Rattle.tk_distance.proofs.exact.roots.root.Goals as goal

pub returns-then-x-square : goal.returns-then-x-square
returns-then-x-square c =
    root_between c.args.x c.near_wide_root-guess.result c.if-square-x.true
    (omega (arith, c.if-square-x.true, c.if-x-square.true))

pub returns-then-square-x-2 : goal.returns-then-square-x-2
returns-then-square-x-2 c = grind (arith, common_steps)

pub overflow_mul-near-else-square-x : goal.overflow_mul-near-else-square-x
overflow_mul-near-else-square-x c = grind (arith, common_steps)
