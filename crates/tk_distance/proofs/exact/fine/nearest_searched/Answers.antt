use Rattle.std.proofs.Common.{refl}
use Rattle.tk_distance.proofs.ExactRoots.Rounding.{nearest_from_root}
use Rattle.tk_distance.proofs.exact.fine.nearest_searched.Goals as goal

pub returns : goal.returns
returns c =
    nearest_from_root _ c.isqrt-root.result _ c.isqrt-root.ensures.square_le c.isqrt-root.ensures.next_square_gt refl
