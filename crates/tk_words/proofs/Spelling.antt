-- Comparing bytes one by one.
use Rattle.std.proofs.Common.{◌≡◌, ◌≢◌, ℕ, suc, false, eqb, ◌&&◌, List, [], ◌∷◌, length, refl, ap, ◌∙◌}
use Rattle.std.specs.Char.{to_ascii_uppercase}
use Rattle.tk_words.proofs.BoolLaws.{and_false}
use Rattle.tk_words.specs.Words.{spells}

pub differ_in_length : (xs ys : List ℕ) → length xs ≢ length ys → spells xs ys ≡ false
differ_in_length [] [] h = absurd (h refl)
differ_in_length [] (y ∷ ys) h = refl
differ_in_length (x ∷ xs) [] h = refl
differ_in_length (x ∷ xs) (y ∷ ys) h =
    ap (λ b. eqb (to_ascii_uppercase x) y && b) (differ_in_length xs ys (λ e. h (ap suc e)))
    ∙ and_false (eqb (to_ascii_uppercase x) y)
