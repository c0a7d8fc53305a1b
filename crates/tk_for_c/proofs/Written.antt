-- An array that is written from the start.
use Rattle.std.proofs.Common.{◌≡◌, ℕ, ◌+◌, ◌<◌, List, length, ⊎_elim, arith, sym, ap, ◌∙◌}
use Rattle.std.specs.Prelude.{slice_index_or, slice_set}
use Rattle.std.proofs.lemmas.Bool.{cases_eq}
use Rattle.std.proofs.lemmas.List.{get_or-set_other, get_or-set_same}

-- one more element is written
pub one_written : {A : Type 0} (xs ys : List A) (i : ℕ) (x d : A) (v : ℕ → A) → ys ≡ slice_set xs i x → i < length xs
    → x ≡ v i → ((j : ℕ) → j < i → slice_index_or xs j d ≡ v j) → (j : ℕ) → j < i + 1 → slice_index_or ys j d ≡ v j
one_written {A} xs ys i x d v is fits here before j below =
    ap (λ (l : List A). slice_index_or l j d) is ∙ ⊎_elim
    (λ e. ap (λ k. slice_index_or (slice_set xs i x) k d) e ∙ get_or-set_same xs i x d fits ∙ here ∙ ap v (sym e))
    (λ ne. get_or-set_other xs i j x d ne ∙ before j (omega arith))
    (cases_eq j i)
