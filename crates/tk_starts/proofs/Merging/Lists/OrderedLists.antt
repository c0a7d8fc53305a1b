-- Two lists in one order that hold the same are equal.
use Rattle.std.proofs.Common.{◌≡◌, suc, zero, List, [], ◌∷◌, refl, sym, ap, ◌∙◌, ◌⊎◌, inl, inr, ◌↔◌, arith, ⊎_elim}
use Rattle.std.proofs.Common.{subst}
use Rattle.std.specs.List.{AllPairs, Contains}
use Rattle.std.proofs.lemmas.List.Elements.{Contains-append_right}

module _ {A : Type 0} where
  none_held : (x : A) → Contains [] x → ⊥
  none_held x (k, l, e) = omega (arith, l)

  first_held : (x : A) (xs : List A) → Contains (x ∷ xs) x
  first_held x xs = (0, omega arith, refl)

  held_cases : (x y : A) (xs : List A) → Contains (x ∷ xs) y → (x ≡ y) ⊎ Contains xs y
  held_cases x y xs (zero, l, e) = inl e
  held_cases x y xs (suc k, l, e) = inr (k, omega (arith, l), e)

module _ {A : Type 0} (R : A → A → Type 0) (one_way : (x y : A) → R x y → R y x → ⊥) where
  not_itself : (x y : A) → x ≡ y → R x y → ⊥
  not_itself x y e h = let own : R x x = subst (λ (z : A). R x z) (sym e) h in one_way x x own own

  before_later : (x y : A) (xs : List A) → AllPairs R (x ∷ xs) → Contains xs y → R x y
  before_later x y xs a (k, l, e) = subst (λ (z : A). R x z) e (a 0 (suc k) y (omega arith) (omega (arith, l)))

  later_order : (x : A) (xs : List A) → AllPairs R (x ∷ xs) → AllPairs R xs
  later_order x xs a = λ i j d l m. a (suc i) (suc j) d (omega (arith, l)) (omega (arith, m))

  same_first : (x y : A) (xs ys : List A) → AllPairs R (x ∷ xs) → AllPairs R (y ∷ ys) → (y ≡ x) ⊎ Contains ys x →
      (x ≡ y) ⊎ Contains xs y → x ≡ y
  same_first x y xs ys a b h k =
      ⊎_elim (λ w. sym w)
      (λ w. ⊎_elim (λ v. v) (λ v. absurd (one_way x y (before_later x y xs a v) (before_later y x ys b w))) k) h

  pub same_ordered : (xs ys : List A) → AllPairs R xs → AllPairs R ys →
      ((x : A) → Contains xs x ↔ Contains ys x) → xs ≡ ys
  same_ordered [] [] a b m = refl
  same_ordered [] (y ∷ ys) a b m = absurd (none_held y ((m y).1 (first_held y ys)))
  same_ordered (x ∷ xs) [] a b m = absurd (none_held x ((m x).0 (first_held x xs)))
  same_ordered (x ∷ xs) (y ∷ ys) a b m =
      let e : x ≡ y =
      same_first x y xs ys a b (held_cases y x ys ((m x).0 (first_held x xs)))
      (held_cases x y xs ((m y).1 (first_held y ys))) in
      let rest : xs ≡ ys = same_ordered xs ys (later_order x xs a) (later_order y ys b) (λ p. (
        λ k. ⊎_elim (λ w. absurd (not_itself x p (e ∙ w) (before_later x p xs a k))) (λ w. w)
            (held_cases y p ys ((m p).0 (Contains-append_right (x ∷ []) xs p k))),
        λ k. ⊎_elim (λ w. absurd (not_itself y p (sym e ∙ w) (before_later y p ys b k))) (λ w. w)
            (held_cases x p xs ((m p).1 (Contains-append_right (y ∷ []) ys p k))),
      )) in
      ap (λ (z : A). z ∷ xs) e ∙ ap (λ (z : List A). y ∷ z) rest
