-- What the definitions determine.
use Rattle.std.proofs.Common.{◌≡◌, ℕ, zero, suc, ◌<◌, ◌≤◌, ⊎_elim, List, length, sym, ◌∙◌, arith, subst}
use Rattle.std.specs.Prelude.{slice_index}
use Rattle.std.proofs.lemmas.Bool.{cases_eq}
use Rattle.std.proofs.lemmas.List.{ext_get_or}
use Rattle.tk_near.specs.Near.{IsFirst, IsNear}

-- there is one first city
pub IsFirst-unique : (dist : ℕ → ℕ → ℕ) (c a b : ℕ) (P Q : ℕ → Type 0) → IsFirst dist c P a → IsFirst dist c Q b →
    P b → Q a → a ≡ b
IsFirst-unique dist c a b P Q f g pb qa =
    ⊎_elim (λ e. e)
    (λ ne. absurd (omega (arith, f.before b pb (λ e. ne (sym e)), g.before a qa ne)))
    (cases_eq a b)

near_agree : (dist : ℕ → ℕ → ℕ) (n k c : ℕ) (xs ys : List ℕ) → IsNear dist n k c xs → IsNear dist n k c ys → (j : ℕ) →
    j ≤ k → (i : ℕ) → i < j → slice_index xs i ≡ slice_index ys i
near_agree dist n k c xs ys f g zero l i m = absurd (omega arith)
near_agree dist n k c xs ys f g (suc j) l i m =
    let front = near_agree dist n k c xs ys f g j (omega arith) in
    let fj = f.each j (omega arith) in
    let gj = g.each j (omega arith) in
    let here : slice_index xs j ≡ slice_index ys j =
    IsFirst-unique dist c (slice_index xs j) (slice_index ys j) _ _ fj gj
    (gj.member.0, gj.member.1, λ r lr e. gj.member.2 r lr (sym (front r lr) ∙ e))
    (fj.member.0, fj.member.1, λ r lr e. fj.member.2 r lr (front r lr ∙ e)) in
    ⊎_elim (λ e. subst (λ v. slice_index xs v ≡ slice_index ys v) (sym e) here) (λ ne. front i (omega arith))
    (cases_eq i j)

-- the definition of a near list determines it
pub IsNear-unique : (dist : ℕ → ℕ → ℕ) (n k c : ℕ) (xs ys : List ℕ) → IsNear dist n k c xs →
    IsNear dist n k c ys → xs ≡ ys
IsNear-unique dist n k c xs ys f g =
    let size : length xs ≡ length ys = f.count ∙ sym g.count in
    ext_get_or 0 xs ys size (λ i l. near_agree dist n k c xs ys f g k (omega arith) i (omega (arith, f.count)))
