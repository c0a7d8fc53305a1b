use Rattle.std.specs.Prelude.{IfOk, Result, Ok, Err}
use Rattle.std.proofs.lemmas.List.Sorted.{IsPermutation-append, IsPermutation-trans}
use Rattle.tk_near.proofs.plane.tree.+build.Goals as goal

always : {T E P : Type 0} (r : Result T E) → P → IfOk r (λ _. P)
always (Ok x) p = p
always (Err e) p = tt

pub returns-clause-moved : goal.returns-clause-moved
returns-clause-moved t c =
    always c.split_into.result
    (IsPermutation-trans _ _ _ c.partition_at_median.ensures
    (rw c.split_at_mut-lower_row.ensures.value
    (IsPermutation-append _ _ _ _ c.in_ok-lower.ensures.moved c.in_ok-upper.ensures.moved)))
