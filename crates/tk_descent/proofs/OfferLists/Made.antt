-- Offers on a cycle, by their direction.
use Rattle.std.proofs.Common.{◌≡◌, ℕ, ◌≤◌, ◌≢◌, true, List, [], ◌∷◌, ◌++◌, length, reverse, refl, sym, ◌∙◌, ap, subst}
use Rattle.std.proofs.Common.{append_assoc, inl, inr, arith, length-append}
use Rattle.std.proofs.lemmas.List.{reverse-append, length-reverse}
use Rattle.std.proofs.lemmas.Bool.{both_ways}
use Rattle.tk_descent.specs.Machine.{IsOfferOn}
use Rattle.tk_descent.specs.Offers.{Makes}
use Rattle.tk_tour.specs.Moves.{CutInThree, MovesStraight, MovesReversed}
use Rattle.tk_tour.specs.Tour.{IsRotation, SameCycle, IsSizedTour, next_city}
use Rattle.tk_descent.proofs.MovesOnTours.Rounds.{round_of}
use Rattle.tk_descent.proofs.MovesOnTours.Views.{Parts, Made, IsMadeOn, path_of, made_of, makes_of, made_on}
use Rattle.tk_descent.proofs.MovesOnTours.Paths.{Spans}
use Rattle.tk_distance.specs.Holding.{IsDistinct, holds}
use Rattle.tk_descent.specs.declared.offer.Offer.TheVariants.{Two, Or}
use Rattle.tk_descent.proofs.MovesOnTours.Length.{Spans-reverse, Spans-append}
use Rattle.tk_descent.proofs.MovesOnTours.Steps.{turned, rotation-trans, distinct-rotation, next_of, cycle-turn}
use Rattle.tk_descent.proofs.MovesOnTours.Steps.{cycle-same, cycle-reverse, steps_of, distinct-cycle, distinct-parts}
use Rattle.tk_descent.proofs.MovesOnTours.Steps.{apart-ne, holds-last, Steps, one_city}

-- on three cities or more, the first city of a tour is not followed by its last
pub not_next : (C D : List ℕ) (p q : ℕ) → IsRotation C D → IsDistinct C → Spans D p q → 3 ≤ length D →
    next_city C p ≡ q → ⊥
not_next C [] p q h d s big e = absurd s
not_next C (a ∷ []) p q h d s big e = absurd (omega arith)
not_next C (a ∷ b ∷ []) p q h d s big e = absurd (omega arith)
not_next C (a ∷ z ∷ w ∷ R) p q h d s big e =
    let n : next_city C a ≡ z =
    next_of C ((z ∷ w ∷ R) ++ a ∷ []) z a
    (rotation-trans C (a ∷ z ∷ w ∷ R) ((z ∷ w ∷ R) ++ a ∷ []) h (turned (a ∷ []) (z ∷ w ∷ R)))
    (Spans-append (z ∷ w ∷ R) (a ∷ []) z q a a (refl, s.1) (refl, refl)) d in
    let same : q ≡ z = sym e ∙ ap (next_city C) (sym s.0) ∙ n in
    both_ways (holds (w ∷ R) z) (distinct-rotation C (a ∷ z ∷ w ∷ R) h d).1.0
    (subst (λ y. holds (w ∷ R) y ≡ true) same (holds-last (w ∷ R) w q (refl, s.1)))

positive : (X : List ℕ) (p q : ℕ) → Spans X p q → 1 ≤ length X
positive [] p q s = absurd s
positive (a ∷ X) p q s = omega arith

module _ {m : ℕ} {C : List ℕ} {a x e b c d : ℕ} (dis : IsDistinct C) (p : Parts m C a x e b c d) where
  abbrev whole : List ℕ
  whole = p.segment ++ p.ahead ++ p.rest

  abbrev round : List ℕ
  round = p.rest ++ (p.segment ++ p.ahead)

  front_ends : Spans (p.segment ++ p.ahead) x c
  front_ends = Spans-append p.segment p.ahead x e b c p.is_segment p.is_ahead

  whole_ends : Spans whole x a
  whole_ends = Spans-append (p.segment ++ p.ahead) p.rest x c d a front_ends p.is_rest

  round_ends : Spans round d c
  round_ends = Spans-append p.rest (p.segment ++ p.ahead) d a x c p.is_rest front_ends

  big : 3 ≤ length whole
  big =
      omega (
        arith,
        length-append (p.segment ++ p.ahead) p.rest,
        length-append p.segment p.ahead,
        positive p.segment x e p.is_segment,
        positive p.ahead b c p.is_ahead,
        positive p.rest d a p.is_rest,
      )

  ahead_of : SameCycle C whole → next_city C a ≡ x → IsRotation C whole
  ahead_of (inl h) n = h
  ahead_of (inr h) n =
      absurd (not_next C (reverse whole) a x h dis (Spans-reverse whole x a whole_ends)
      (omega (arith, big, length-reverse whole)) n)

  turn_round : next_city C a ≡ x → IsRotation C round
  turn_round n = rotation-trans C whole round (ahead_of p.cycle n) (turned (p.segment ++ p.ahead) p.rest)

  next_of_c : next_city C a ≡ x → next_city C c ≡ d
  next_of_c n = next_of C round d c (turn_round n) round_ends dis

  not_next_of_d : next_city C a ≡ x → next_city C d ≡ c → ⊥
  not_next_of_d n k =
      not_next C round d c (turn_round n) dis round_ends
      (omega (arith, big, length-append (p.segment ++ p.ahead) p.rest, length-append p.rest (p.segment ++ p.ahead))) k

  -- a segment that does not run forwards does so from its other end
  back_of : SameCycle C whole → (next_city C a ≡ x → ⊥) → next_city C b ≡ e
  back_of (inl h) n = absurd (n (next_of C whole x a h whole_ends dis))
  back_of (inr h) n =
      let others = p.ahead ++ p.rest in
      next_of C (reverse p.segment ++ reverse others) e b
      (rotation-trans C (reverse others ++ reverse p.segment) (reverse p.segment ++ reverse others)
      (subst (λ z. IsRotation C z) (ap reverse (append_assoc p.segment p.ahead p.rest)
      ∙ reverse-append p.segment others) h) (turned (reverse others) (reverse p.segment)))
      (Spans-append (reverse p.segment) (reverse others) e x a b (Spans-reverse p.segment x e p.is_segment)
      (Spans-reverse others b a (Spans-append p.ahead p.rest b c d a p.is_ahead p.is_rest))) dis

  next_of_b : (next_city C a ≡ x → ⊥) → next_city C b ≡ e
  next_of_b n = back_of p.cycle n

  abbrev cut : CutInThree C a x e b c d
  cut = record {
    segment = p.segment;
    ahead = p.ahead;
    rest = p.rest;
    is_segment = path_of p.segment x e p.is_segment;
    is_ahead = path_of p.ahead b c p.is_ahead;
    is_rest = path_of p.rest d a p.is_rest;
    cycle = p.cycle;
  }

module _ {C : List ℕ} (tour : IsSizedTour C) {a x e b y w : ℕ} (n : next_city C a ≡ x) {m : ℕ}
    (o : IsOfferOn m (Or a x e b y w) C) where
  dis : IsDistinct C
  dis = (round_of C tour).distinct

  -- if w comes after y, the segment keeps its direction, and otherwise it is reversed
  then_parts : next_city C y ≡ w → Parts m C a x e b y w
  then_parts f =
      elim ((made_on m (Or a x e b y w) C o).1) [ inl (p, k) ↦ p | inr (p, k) ↦ absurd (not_next_of_d dis p n f) ]

  else_parts : (next_city C y ≡ w → ⊥) → Parts m C a x e b w y
  else_parts f =
      elim ((made_on m (Or a x e b y w) C o).1) [ inl (p, k) ↦ absurd (f (next_of_c dis p n)) | inr (p, k) ↦ p ]

  pub cut_then : next_city C y ≡ w → CutInThree C a x e b y w
  cut_then f = cut dis (then_parts f)

  pub cut_else : (next_city C y ≡ w → ⊥) → CutInThree C a x e b w y
  cut_else f = cut dis (else_parts f)

  module _ {D : List ℕ} where
    pub makes_straight : next_city C y ≡ w → MovesStraight C D a x e b y w → Makes m (Or a x e b y w) C D
    makes_straight f g = let p = then_parts f in makes_of m (Or a x e b y w) C D (inl (p, g (cut dis p)))

    pub makes_turned : (next_city C y ≡ w → ⊥) → MovesReversed C D a x e b w y → Makes m (Or a x e b y w) C D
    makes_turned f g = let p = else_parts f in makes_of m (Or a x e b y w) C D (inr (p, g (cut dis p)))

    -- one city is its own reverse
    pub makes_alone : next_city C y ≡ w → x ≡ e → MovesReversed C D a x e b y w → Makes m (Or a x e b y w) C D
    makes_alone f same g =
        let p = then_parts f in
        let alone : reverse p.segment ≡ p.segment =
        one_city p.segment x (subst (λ z. Spans p.segment x z) (sym same) p.is_segment)
        (distinct-parts p.segment p.ahead (distinct-parts (p.segment ++ p.ahead) p.rest
        (distinct-cycle C (p.segment ++ p.ahead ++ p.rest) p.cycle dis)).0).0 in
        makes_of m (Or a x e b y w) C D
        (inl (p, subst (λ z. SameCycle D (p.ahead ++ z ++ p.rest)) alone (g (cut dis p))))

-- an Or-opt offer, seen from the other end of its segment

reverse_three : (A B C : List ℕ) → reverse (A ++ B ++ C) ≡ reverse C ++ reverse B ++ reverse A
reverse_three A B C = reverse-append (A ++ B) C ∙ ap (λ z. reverse C ++ z) (reverse-append A B)
    ∙ sym (append_assoc (reverse C) (reverse B) (reverse A))

mirror_cycle : (C S P Q : List ℕ) → SameCycle C (S ++ P ++ Q) → SameCycle C (reverse S ++ reverse Q ++ reverse P)
mirror_cycle C S P Q h =
    cycle-same C (reverse S ++ (reverse Q ++ reverse P)) (reverse S ++ reverse Q ++ reverse P)
    (sym (append_assoc (reverse S) (reverse Q) (reverse P)))
    (cycle-turn C (reverse Q ++ reverse P) (reverse S)
    (cycle-same C (reverse (S ++ P ++ Q)) ((reverse Q ++ reverse P) ++ reverse S) (reverse_three S P Q)
    (cycle-reverse C (S ++ P ++ Q) h)))

-- the parts, seen from the other end of the segment
abbrev mirror : {m : ℕ} {C : List ℕ} {a x e b c d : ℕ} → Parts m C a x e b c d → Parts m C b e x a d c
mirror {C = C} {a = a} {x = x} {e = e} {b = b} {c = c} {d = d} p = record {
  segment = reverse p.segment;
  ahead = reverse p.rest;
  rest = reverse p.ahead;
  cycle = mirror_cycle C p.segment p.ahead p.rest p.cycle;
  short = omega (arith, p.short, length-reverse p.segment);
  is_segment = Spans-reverse p.segment x e p.is_segment;
  is_ahead = Spans-reverse p.rest d a p.is_rest;
  is_rest = Spans-reverse p.ahead b c p.is_ahead;
}

mirrored_cycle : (D S P Q : List ℕ) → SameCycle D (P ++ S ++ Q) → SameCycle D (reverse Q ++ reverse S ++ reverse P)
mirrored_cycle D S P Q h =
    cycle-same D (reverse (P ++ S ++ Q)) (reverse Q ++ reverse S ++ reverse P) (reverse_three P S Q)
    (cycle-reverse D (P ++ S ++ Q) h)

pub mirrored : (m : ℕ) (C D : List ℕ) (a x e b y w : ℕ) → Made m (Or a x e b y w) C D → Made m (Or b e x a w y) C D
mirrored m C D a x e b y w (inl (p, k)) = inl (mirror p, mirrored_cycle D p.segment p.ahead p.rest k)
mirrored m C D a x e b y w (inr (p, k)) = inr (mirror p, mirrored_cycle D (reverse p.segment) p.ahead p.rest k)

pub forward_back : (m : ℕ) (C : List ℕ) (a x e b y w : ℕ) → IsDistinct C → IsOfferOn m (Or a x e b y w) C →
    (next_city C a ≡ x → ⊥) → next_city C b ≡ e
forward_back m C a x e b y w dis o n =
    elim ((made_on m (Or a x e b y w) C o).1) [ inl (p, k) ↦ next_of_b dis p n | inr (p, k) ↦ next_of_b dis p n ]

pub mirrored_move : (m : ℕ) (C D : List ℕ) (a x e b y w : ℕ) → Makes m (Or a x e b y w) C D →
    Makes m (Or b e x a w y) C D
mirrored_move m C D a x e b y w h =
    makes_of m (Or b e x a w y) C D (mirrored m C D a x e b y w (made_of m (Or a x e b y w) C D h))

-- 2-opt

pub two_steps : (m : ℕ) (C : List ℕ) (a b c d : ℕ) → IsDistinct C → IsMadeOn m (Two a b c d) C →
    Steps C a b c d × (a ≢ c)
two_steps m C a b c d dis (D, (h, k)) = (
  steps_of C h.kept h.turned a b c d h.cycle dis h.is_kept h.is_turned,
  apart-ne h.kept h.turned a c
      (distinct-parts h.kept h.turned (distinct-cycle C (h.kept ++ h.turned) h.cycle dis)).2
      (holds-last h.kept d a h.is_kept) (holds-last h.turned b c h.is_turned),
)
