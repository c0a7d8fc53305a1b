use Rattle.std.proofs.Common.{arith}
use Rattle.std.proofs.lemmas.List.Sorted.{IsPermutation-trans}
use Rattle.tk_near.proofs.plane.partition_at_median.part.Goals as goal
use Rattle.tk_near.proofs.plane.partition_at_median.part.Goals.{then-is_first, else-is_first}

pub loop-i-preserved : goal.loop-i-preserved
loop-i-preserved c =
    let moved = IsPermutation-trans _ _ _ c.loop-i.invariant.1 c.swap.ensures.permutation in
    elim c.if-is_first.branch [
      | then-is_first w ↦ rw w.count-is (omega arith, moved)
      | else-is_first w ↦ rw w.count-is (omega arith, moved)
    ]
