use Rattle.std.proofs.lemmas.Grind.{common_steps}
use Rattle.std.proofs.Common.{arith}
use Rattle.tk_distance.proofs.ExactRoots.Covering.{least_whole}
use Rattle.tk_distance.proofs.exact.whole.ceiling.Goals as goal

pub returns-else-middle-square-2 : goal.returns-else-middle-square-2
returns-else-middle-square-2 c =
    least_whole c.args.square c.rounded-guess.result c.if-middle-square-2.false
    (λ some. omega (arith, c.if-middle-square.true))

pub returns-then-middle-square-2 : goal.returns-then-middle-square-2
returns-then-middle-square-2 c = grind (arith, common_steps)

pub returns-else-middle-square : goal.returns-else-middle-square
returns-else-middle-square c = grind (arith, common_steps)
