-- Members of lists, and distinct lists.
use Rattle.std.proofs.Common.{◌≡◌, ℕ, ◌≢◌, true, false, ◌||◌, eqb, List, [], ◌∷◌, ◌++◌, refl, sym, ◌∙◌, ap}
use Rattle.std.proofs.Math.Bool.{or_assoc, or-false}
use Rattle.std.proofs.lemmas.Bool.{or_parts, or_left, or_right, eqb-false, eq-eqb, ne_eqb}
use Rattle.tk_distance.specs.Holding.{holds, IsDistinct}

pub holds-here : (c : ℕ) (xs : List ℕ) → holds (c ∷ xs) c ≡ true
holds-here c xs = or_left (eqb c c) (holds xs c) (eq-eqb c c refl)

pub holds-append : (xs ys : List ℕ) (c : ℕ) → holds (xs ++ ys) c ≡ (holds xs c || holds ys c)
holds-append [] ys c = refl
holds-append (b ∷ xs) ys c = ap (λ z. eqb b c || z) (holds-append xs ys c)
    ∙ sym (or_assoc (eqb b c) (holds xs c) (holds ys c))

pub holds-push : (xs : List ℕ) (b c : ℕ) → holds (xs ++ b ∷ []) c ≡ (holds xs c || eqb b c)
holds-push xs b c = holds-append xs (b ∷ []) c ∙ ap (λ z. holds xs c || z) (or-false (eqb b c))

pub holds-push_other : (xs : List ℕ) (b c : ℕ) → c ≢ b → holds (xs ++ b ∷ []) c ≡ holds xs c
holds-push_other xs b c ne = holds-push xs b c ∙ ap (λ z. holds xs c || z) (ne_eqb b c (λ e. ne (sym e)))
    ∙ or-false (holds xs c)

pub holds-push_same : (xs : List ℕ) (b : ℕ) → holds (xs ++ b ∷ []) b ≡ true
holds-push_same xs b = holds-push xs b b ∙ or_right (holds xs b) (eqb b b) (eq-eqb b b refl)

pub distinct-push : (xs : List ℕ) (c : ℕ) → IsDistinct xs → holds xs c ≡ false → IsDistinct (xs ++ c ∷ [])
distinct-push [] c h k = (refl, tt)
distinct-push (b ∷ xs) c h k =
    let p : (eqb b c ≡ false) × (holds xs c ≡ false) = or_parts (eqb b c) (holds xs c) k in
    (holds-push_other xs c b (eqb-false b c p.0) ∙ h.0, distinct-push xs c h.1 p.1)
