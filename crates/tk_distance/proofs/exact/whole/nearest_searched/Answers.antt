use Rattle.std.proofs.Common.{◌+◌, arith}
use Rattle.tk_distance.proofs.ExactRoots.Rounding.{nearest_whole}
use Rattle.tk_distance.proofs.exact.whole.nearest_searched.Goals as goal

pub returns-then-root-square : goal.returns-then-root-square
returns-then-root-square c =
    nearest_whole c.args.square (c.isqrt-root.result + 1)
    (omega (arith, c.isqrt-root.ensures.next_square_gt)) (λ some. omega (arith, c.if-root-square.true))

pub returns-else-root-square : goal.returns-else-root-square
returns-else-root-square c =
    nearest_whole c.args.square c.isqrt-root.result
    (omega (arith, c.if-root-square.false)) (λ some. omega (arith, c.isqrt-root.ensures.square_le))
