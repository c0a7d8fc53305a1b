-- The neighbours of the cities of a cycle, in each rotation of it.
use Rattle.std.proofs.Common.{◌≡◌, ℕ, ◌⊎◌, true, false, eqb, List, [], ◌∷◌, ◌++◌, reverse, refl, sym, ◌∙◌, ap, inl, inr}
use Rattle.std.proofs.Common.{subst, append_assoc}
use Rattle.std.proofs.Math.Bool.{or_comm}
use Rattle.std.proofs.lemmas.Bool.{or_cases, eqb-true, both_ways}
use Rattle.std.proofs.lemmas.List.{reverse-reverse}
use Rattle.tk_tour.proofs.Cycle.{IsRotation-refl}
use Rattle.tk_tour.specs.Tour.{IsRotation, SameCycle, next_city, prev_city}
use Rattle.tk_descent.proofs.MovesOnTours.Paths.{Spans, last_from}
use Rattle.tk_distance.specs.Holding.{IsDistinct, holds}
use Rattle.tk_descent.proofs.Lists.{holds-append}
use Rattle.tk_descent.proofs.MovesOnTours.Length.{Spans-reverse, Spans-append, last_from-append}
use Rattle.tk_descent.proofs.MovesOnTours.Steps.{rotation-reverse, rotation-trans, turned, next_of, prev_of}
use Rattle.tk_descent.proofs.MovesOnTours.Steps.{distinct-reverse}

pub same_cycle : (D : List ℕ) → SameCycle D D
same_cycle D = inl (IsRotation-refl D)

split_cons : (b : ℕ) (xs : List ℕ) (y : ℕ) →
    ((eqb b y ≡ true) ⊎ ((us : List ℕ) × ((vs : List ℕ) × (xs ≡ us ++ y ∷ vs)))) →
    (us : List ℕ) × ((vs : List ℕ) × (b ∷ xs ≡ us ++ y ∷ vs))
split_cons b xs y (inl e) = ([], (xs, ap (λ z. z ∷ xs) (eqb-true b y e)))
split_cons b xs y (inr (us, (vs, e))) = (b ∷ us, (vs, ap (λ z. b ∷ z) e))

pub member_split : (C : List ℕ) (y : ℕ) → holds C y ≡ true → (us : List ℕ) × ((vs : List ℕ) × (C ≡ us ++ y ∷ vs))
member_split [] y h = absurd (both_ways false refl h)
member_split (b ∷ xs) y h =
    split_cons b xs y (elim (or_cases (eqb b y) (holds xs y) h) [ inl e ↦ inl e | inr e ↦ inr (member_split xs y e) ])

-- the rotation that begins with x
pub starts : (C : List ℕ) (x : ℕ) → holds C x ≡ true → (E : List ℕ) × IsRotation C (x ∷ E)
starts C x h = let s = member_split C x h in
    (s.1.0 ++ s.0, record { front = s.0; back = x ∷ s.1.0; before = s.1.1; after = refl })

pub spans_push : (us : List ℕ) (a : ℕ) → (f : ℕ) × Spans (us ++ a ∷ []) f a
spans_push [] a = (a, (refl, refl))
spans_push (u ∷ us) a = (u, (refl, last_from-append u us (a ∷ [])))

pub holds-turn : (A B : List ℕ) (c : ℕ) → holds (A ++ B) c ≡ holds (B ++ A) c
holds-turn A B c = holds-append A B c ∙ or_comm (holds A c) (holds B c) ∙ sym (holds-append B A c)

pub holds-rotation : (X Y : List ℕ) (c : ℕ) → IsRotation X Y → holds X c ≡ holds Y c
holds-rotation X Y c h = ap (λ z. holds z c) h.before ∙ holds-turn h.front h.back c ∙ sym (ap (λ z. holds z c) h.after)

-- the rotation that ends with x
pub rotated_to : (us vs : List ℕ) (x : ℕ) (C : List ℕ) → C ≡ us ++ x ∷ vs → IsRotation C ((vs ++ us) ++ x ∷ [])
rotated_to us vs x C e =
    record {
      front = us ++ x ∷ [];
      back = vs;
      before = e ∙ sym (append_assoc us (x ∷ []) vs);
      after = append_assoc vs us (x ∷ []);
    }

pub spans_two : (A B : List ℕ) (p q r s b a : ℕ) → Spans A p q → Spans B r s → Spans (A ++ B) b a → (p ≡ b) × (s ≡ a)
spans_two [] B p q r s b a h k l = absurd h
spans_two (c ∷ A) [] p q r s b a h k l = absurd k
spans_two (c ∷ A) (e ∷ B) p q r s b a h k l = (sym h.0 ∙ l.0, sym k.1 ∙ sym (last_from-append c A (e ∷ B)) ∙ l.1)

pub last_same : (us : List ℕ) (y b a : ℕ) → Spans (us ++ y ∷ []) b a → a ≡ y
last_same [] y b a h = sym h.1
last_same (u ∷ us) y b a h = sym h.1 ∙ last_from-append u us (y ∷ [])

-- nx and pv are the neighbours of the cities of K, as each rotation of K shows them
pub record Ways (K : List ℕ) (nx pv : ℕ → ℕ) : Type 0 where
  pub distinct : IsDistinct K
  pub next : (D : List ℕ) (b a : ℕ) → IsRotation K D → Spans D b a → nx a ≡ b
  pub prev : (D : List ℕ) (b a : ℕ) → IsRotation K D → Spans D b a → pv b ≡ a

-- the next city, from a rotation that shows it
pub step_in : {K : List ℕ} {nx pv : ℕ → ℕ} → Ways K nx pv → (us vs : List ℕ) (x c : ℕ) →
    IsRotation K (us ++ x ∷ c ∷ vs) → nx x ≡ c
step_in {K} ways us vs x c r =
    let front = us ++ x ∷ [] in
    let f = spans_push us x in
    ways.next ((c ∷ vs) ++ front) c x
    (rotation-trans K (front ++ (c ∷ vs)) ((c ∷ vs) ++ front)
    (subst (λ z. IsRotation K z) (sym (append_assoc us (x ∷ []) (c ∷ vs))) r) (turned front (c ∷ vs)))
    (Spans-append (c ∷ vs) front c (last_from c vs) f.0 x (refl, refl) f.1)

pub ways_on : (C : List ℕ) → IsDistinct C → Ways C (next_city C) (prev_city C)
ways_on C dis = record {
  distinct = dis;
  next = λ D b a r s. next_of C D b a r s dis;
  prev = λ D b a r s. prev_of C D b a r s dis;
}

back_rotation : (C D : List ℕ) → IsRotation (reverse C) D → IsRotation C (reverse D)
back_rotation C D r = subst (λ z. IsRotation z (reverse D)) (reverse-reverse C) (rotation-reverse (reverse C) D r)

pub ways_back : (C : List ℕ) → IsDistinct C → Ways (reverse C) (prev_city C) (next_city C)
ways_back C dis = record {
  distinct = distinct-reverse C dis;
  next = λ D b a r s. prev_of C (reverse D) a b (back_rotation C D r) (Spans-reverse D b a s) dis;
  prev = λ D b a r s. next_of C (reverse D) a b (back_rotation C D r) (Spans-reverse D b a s) dis;
}

-- a rotation of the cycle, or of the cycle the other way round, is the same cycle
pub rotated : (C X : List ℕ) → IsRotation C X → SameCycle C X
rotated C X r = inl r

pub rotated_back : (C X : List ℕ) → IsRotation (reverse C) X → SameCycle C X
rotated_back C X r = inr (back_rotation C X r)
