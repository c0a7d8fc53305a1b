-- Words of different lengths.
use Rattle.std.proofs.Common.{◌≡◌, ◌≢◌, ℕ, suc, Bool, true, false, eqb, ◌&&◌, List, [], ◌∷◌, length, refl, ap, ◌∙◌}
use Rattle.std.specs.Char.{to_ascii_uppercase}
use Rattle.tk_explain.specs.FaultWords.{same_fault_word}

and_false : (b : Bool) → (b && false) ≡ false
and_false true = refl
and_false false = refl

-- words of different lengths are not the same
pub same_word-differ : (xs ys : List ℕ) → length xs ≢ length ys → same_fault_word xs ys ≡ false
same_word-differ [] [] h = absurd (h refl)
same_word-differ [] (y ∷ ys) h = refl
same_word-differ (x ∷ xs) [] h = refl
same_word-differ (x ∷ xs) (y ∷ ys) h =
    ap (λ b. eqb (to_ascii_uppercase x) (to_ascii_uppercase y) && b) (same_word-differ xs ys (λ e. h (ap suc e)))
    ∙ and_false (eqb (to_ascii_uppercase x) (to_ascii_uppercase y))
