use Rattle.std.proofs.Common.{arith}
use Rattle.std.proofs.lemmas.Bool.{leb-true}
use Rattle.tk_distance.proofs.ExactRoots.Rounding.{nearest_whole}
use Rattle.tk_distance.proofs.exact.whole.is_rounded_root.Goals as goal

pub returns-then-middle-square : goal.returns-then-middle-square
returns-then-middle-square c =
    λ yes. nearest_whole c.args.square c.args.guess (leb-true _ _ yes) (λ some. omega (arith, c.if-middle-square.true))
