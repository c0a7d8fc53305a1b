-- There is one nearest-neighbour tour of a start.
use Rattle.std.proofs.Common.{◌≡◌, ℕ, zero, suc, ◌+◌, ◌<◌, ◌≤◌, ⊎_elim, List, length, sym, ◌∙◌, arith, subst}
use Rattle.std.specs.Prelude.{slice_index}
use Rattle.std.proofs.lemmas.Bool.{cases_eq}
use Rattle.std.proofs.lemmas.List.{ext_get_or}
use Rattle.tk_distance.specs.Cities.{IsCity}
use Rattle.tk_near.specs.Near.{IsFirst, IsNew}
use Rattle.tk_near.proofs.DeterminedLists.{IsFirst-unique}
use Rattle.tk_starts.specs.NearestTour.{IsNearestTour}

module _ (dist : ℕ → ℕ → ℕ) (n from : ℕ) (xs ys : List ℕ) (f : IsNearestTour dist n from xs)
    (g : IsNearestTour dist n from ys) where
  -- the tours agree before place j
  agree : (j : ℕ) → j ≤ n → (i : ℕ) → i < j → slice_index xs i ≡ slice_index ys i
  agree zero l i m = absurd (omega arith)
  agree (suc zero) l i m =
      let e : i ≡ 0 = omega arith in
      subst (λ v. slice_index xs v ≡ slice_index ys v) (sym e) (f.first ∙ sym g.first)
  agree (suc (suc j)) l i m =
      let front = agree (suc j) (omega arith) in
      let fj = f.each j (omega arith) in
      let P : ℕ → Type 0 = λ c. IsFirst dist c (λ b. IsCity n b × IsNew ys (j + 1) b) (slice_index ys (j + 1)) in
      let gj = subst P (sym (front j (omega arith))) (g.each j (omega arith)) in
      let here : slice_index xs (j + 1) ≡ slice_index ys (j + 1) =
      IsFirst-unique dist (slice_index xs j) (slice_index xs (j + 1)) (slice_index ys (j + 1)) _ _ fj gj
      (gj.member.0, λ r lr e. gj.member.1 r lr (sym (front r (omega arith)) ∙ e))
      (fj.member.0, λ r lr e. fj.member.1 r lr (front r (omega arith) ∙ e)) in
      ⊎_elim (λ (e : i ≡ j + 1). subst (λ v. slice_index xs v ≡ slice_index ys v) (sym e) here)
      (λ ne. front i (omega (arith, m, ne))) (cases_eq i (j + 1))

  pub nearest-unique : xs ≡ ys
  nearest-unique =
      let size : length xs ≡ length ys = f.count ∙ sym g.count in
      ext_get_or 0 xs ys size (λ i l. agree n (omega arith) i (omega (arith, f.count)))
