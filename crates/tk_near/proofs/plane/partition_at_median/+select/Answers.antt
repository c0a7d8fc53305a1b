use Rattle.std.proofs.lemmas.List.Sorted.{IsPermutation-append_left, IsPermutation-append_right, IsPermutation-trans}
use Rattle.tk_near.proofs.plane.partition_at_median.+select.Goals as goal

pub returns-then-count-before : goal.returns-then-count-before
returns-then-count-before t c =
    IsPermutation-trans _ _ _ c.part-before.ensures.moved
    (rw c.split_at_mut-front.ensures.value (IsPermutation-append_left _ _ _ c.select.ensures))

pub returns-else-count-before : goal.returns-else-count-before
returns-else-count-before t c =
    IsPermutation-trans _ _ _ c.part-before.ensures.moved
    (rw c.split_at_mut-front.ensures.value (IsPermutation-append_right _ _ _ c.select-else-count-before.ensures))
