-- The length of a tour, in parts.
use Rattle.std.proofs.Common.{◌≡◌, ℕ, ◌+◌, List, [], ◌∷◌, ◌++◌, reverse, refl, sym, ◌∙◌, ap, arith, inl, inr, subst}
use Rattle.std.proofs.Common.{append-nil}
use Rattle.std.proofs.lemmas.List.{reverse-append}
use Rattle.tk_tour.specs.Tour.{IsRotation, SameCycle, walk, tour_length}
use Rattle.tk_descent.proofs.MovesOnTours.Paths.{last_from, Spans}

pub last_from-append : (a : ℕ) (xs ys : List ℕ) → last_from a (xs ++ ys) ≡ last_from (last_from a xs) ys
last_from-append a [] ys = refl
last_from-append a (b ∷ xs) ys = last_from-append b xs ys

walk-append : (d : ℕ → ℕ → ℕ) (a : ℕ) (xs ys : List ℕ) → walk d a (xs ++ ys) ≡ walk d a xs + walk d (last_from a xs) ys
walk-append d a [] ys = omega arith
walk-append d a (b ∷ xs) ys = omega (arith, walk-append d b xs ys)

-- the length of the way along a list
abbrev pub inner : (ℕ → ℕ → ℕ) → List ℕ → ℕ
inner d [] = 0
inner d (a ∷ xs) = walk d a xs

pub Spans-append : (A B : List ℕ) (p q r s : ℕ) → Spans A p q → Spans B r s → Spans (A ++ B) p s
Spans-append [] B p q r s h k = absurd h
Spans-append (a ∷ A) [] p q r s h k = absurd k
Spans-append (a ∷ A) (b ∷ B) p q r s h k = (h.0, last_from-append a A (b ∷ B) ∙ k.1)

pub inner-append : (d : ℕ → ℕ → ℕ) (A B : List ℕ) (p q r s : ℕ) → Spans A p q → Spans B r s →
    inner d (A ++ B) ≡ inner d A + d q r + inner d B
inner-append d [] B p q r s h k = absurd h
inner-append d (a ∷ A) [] p q r s h k = absurd k
inner-append d (a ∷ A) (b ∷ B) p q r s h k =
    let e : d (last_from a A) b ≡ d q r = cc in
    omega (arith, walk-append d a A (b ∷ B), e)

pub closed : (d : ℕ → ℕ → ℕ) (A : List ℕ) (p q : ℕ) → Spans A p q → tour_length d A ≡ inner d A + d q p
closed d [] p q h = absurd h
closed d (a ∷ A) p q h =
    let e : d (last_from a A) a ≡ d q p = cc in
    omega (arith, walk-append d a A (a ∷ []), e)

pub reverse-cons : (a : ℕ) (A : List ℕ) → reverse (a ∷ A) ≡ reverse A ++ a ∷ []
reverse-cons a A = reverse-append (a ∷ []) A

pub Spans-reverse : (A : List ℕ) (p q : ℕ) → Spans A p q → Spans (reverse A) q p
Spans-reverse [] p q h = absurd h
Spans-reverse (a ∷ []) p q h = (h.1, h.0)
Spans-reverse (a ∷ b ∷ A) p q h =
    subst (λ z. Spans z q p) (sym (reverse-cons a (b ∷ A)))
    (Spans-append (reverse (b ∷ A)) (a ∷ []) q b p p (Spans-reverse (b ∷ A) b q (refl, h.1)) (h.0, h.0))

pub inner-reverse : (d : ℕ → ℕ → ℕ) → ((a b : ℕ) → d a b ≡ d b a) → (A : List ℕ) → inner d (reverse A) ≡ inner d A
inner-reverse d s [] = refl
inner-reverse d s (a ∷ []) = refl
inner-reverse d s (a ∷ b ∷ A) =
    omega (
      arith,
      ap (inner d) (reverse-cons a (b ∷ A)),
      inner-append d (reverse (b ∷ A)) (a ∷ []) (last_from b A) b a a
          (Spans-reverse (b ∷ A) b (last_from b A) (refl, refl)) (refl, refl),
      inner-reverse d s (b ∷ A),
      s a b,
    )

length-turned : (d : ℕ → ℕ → ℕ) (A B : List ℕ) → tour_length d (A ++ B) ≡ tour_length d (B ++ A)
length-turned d [] B = ap (tour_length d) (sym (append-nil B))
length-turned d (a ∷ A) [] = ap (tour_length d) (append-nil (a ∷ A))
length-turned d (a ∷ A) (b ∷ B) =
    let z = last_from a A in
    let w = last_from b B in
    omega (
      arith,
      closed d ((a ∷ A) ++ b ∷ B) a w (Spans-append (a ∷ A) (b ∷ B) a z b w (refl, refl) (refl, refl)),
      closed d ((b ∷ B) ++ a ∷ A) b z (Spans-append (b ∷ B) (a ∷ A) b w a z (refl, refl) (refl, refl)),
      inner-append d (a ∷ A) (b ∷ B) a z b w (refl, refl) (refl, refl),
      inner-append d (b ∷ B) (a ∷ A) b w a z (refl, refl) (refl, refl),
    )

length-reverse : (d : ℕ → ℕ → ℕ) → ((a b : ℕ) → d a b ≡ d b a) → (A : List ℕ) →
    tour_length d (reverse A) ≡ tour_length d A
length-reverse d s [] = refl
length-reverse d s (a ∷ A) =
    let z = last_from a A in
    omega (
      arith,
      closed d (reverse (a ∷ A)) z a (Spans-reverse (a ∷ A) a z (refl, refl)),
      closed d (a ∷ A) a z (refl, refl),
      inner-reverse d s (a ∷ A),
      s a z,
    )

length-rotation : (d : ℕ → ℕ → ℕ) (X Y : List ℕ) → IsRotation X Y → tour_length d X ≡ tour_length d Y
length-rotation d X Y h = ap (tour_length d) h.before ∙ length-turned d h.front h.back
    ∙ sym (ap (tour_length d) h.after)

-- lists of the same cycle have the same length
pub length-cycle : (d : ℕ → ℕ → ℕ) → ((a b : ℕ) → d a b ≡ d b a) → (X Y : List ℕ) → SameCycle X Y →
    tour_length d X ≡ tour_length d Y
length-cycle d s X Y (inl h) = length-rotation d X Y h
length-cycle d s X Y (inr h) = length-rotation d X (reverse Y) h ∙ length-reverse d s Y

-- the length of two and of three paths end to end
pub length-two : (d : ℕ → ℕ → ℕ) (A B : List ℕ) (p q r s : ℕ) → Spans A p q → Spans B r s →
    tour_length d (A ++ B) ≡ inner d A + d q r + inner d B + d s p
length-two d A B p q r s h k =
    omega (arith, closed d (A ++ B) p s (Spans-append A B p q r s h k), inner-append d A B p q r s h k)

pub length-three : (d : ℕ → ℕ → ℕ) (A B C : List ℕ) (p q r s t u : ℕ) → Spans A p q → Spans B r s → Spans C t u →
    tour_length d (A ++ B ++ C) ≡ inner d A + d q r + inner d B + d s t + inner d C + d u p
length-three d A B C p q r s t u h k l =
    omega (arith, length-two d (A ++ B) C p s t u (Spans-append A B p q r s h k) l, inner-append d A B p q r s h k)
