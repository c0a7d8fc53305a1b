-- The city after a city, in the parts of a cycle.
use Rattle.std.proofs.Common.{◌≡◌, ℕ, ◌+◌, ◌<◌, ◌≤◌, ◌≢◌, ◌⊎◌, true, false, ◌||◌, eqb, List, [], ◌∷◌, ◌++◌, length}
use Rattle.std.proofs.Common.{reverse, refl, sym, ◌∙◌, ap, arith, inl, inr, subst, append-nil}
use Rattle.std.proofs.lemmas.List.{reverse-reverse, length-append, length-reverse}
use Rattle.std.specs.Prelude.{slice_index, ◌%◌, ◌-◌}
use Rattle.std.proofs.Math.Bool.{or_comm}
use Rattle.std.proofs.lemmas.Bool.{or_parts, or_cases, or_left, or_right, eqb-true, eq-eqb, cases_eq, cases_lt}
use Rattle.std.proofs.lemmas.Bool.{false_from_ne_true, both_ways, ne_eqb}
use Rattle.tk_tour.specs.Tour.{IsRotation, SameCycle, next_city, prev_city, occurrences, place_of}
use Rattle.tk_tour.proofs.Cycle.{IsRotation-append, IsRotation-trans, IsRotation-reverse, SameCycle-trans}
use Rattle.tk_tour.proofs.Cycle.{SameCycle-append}
use Rattle.tk_tour.proofs.DistinctCycles.{HoldsOnce, occurrences-rotation, occurrences-reverse}
use Rattle.tk_tour.proofs.Tours.{occurrences-other, occurrences-same, occurrences-nil}
use Rattle.tk_tour.proofs.CycleNeighbours.{Neighbours-rotation}
use Rattle.tk_descent.proofs.MovesOnTours.Paths.{last_from, Spans}
use Rattle.tk_distance.specs.Holding.{holds, IsDistinct}
use Rattle.tk_descent.proofs.Lists.{holds-append, holds-push, holds-push_same}
use Rattle.tk_descent.proofs.MovesOnTours.Length.{reverse-cons, Spans-reverse, Spans-append}

-- rotations and cycles

pub turned : (A B : List ℕ) → IsRotation (A ++ B) (B ++ A)
turned A B = IsRotation-append A B

pub rotation-trans : (X Y Z : List ℕ) → IsRotation X Y → IsRotation Y Z → IsRotation X Z
rotation-trans X Y Z h k = IsRotation-trans h k

pub rotation-reverse : (X Y : List ℕ) → IsRotation X Y → IsRotation (reverse X) (reverse Y)
rotation-reverse X Y h = IsRotation-reverse h

pub cycle-turn : (C A B : List ℕ) → SameCycle C (A ++ B) → SameCycle C (B ++ A)
cycle-turn C A B h = SameCycle-trans h (SameCycle-append A B)

pub cycle-same : (C X Y : List ℕ) → X ≡ Y → SameCycle C X → SameCycle C Y
cycle-same C X Y e h = subst (λ z. SameCycle C z) e h

pub cycle-reverse : (C X : List ℕ) → SameCycle C X → SameCycle C (reverse X)
cycle-reverse C X (inl h) = inr (subst (λ z. IsRotation C z) (sym (reverse-reverse X)) h)
cycle-reverse C X (inr h) = inl h

-- distinct members under a rotation and a reversal

abbrev pub Apart : List ℕ → List ℕ → Type 0
Apart xs ys = (c : ℕ) → holds xs c ≡ true → holds ys c ≡ false

apart_cons : (b : ℕ) (xs ys : List ℕ) → holds ys b ≡ false → Apart xs ys → (c : ℕ) → (eqb b c ≡ true)
    ⊎ (holds xs c ≡ true) → holds ys c ≡ false
apart_cons b xs ys h k c (inl e) = subst (λ z. holds ys z ≡ false) (eqb-true b c e) h
apart_cons b xs ys h k c (inr e) = k c e

pub distinct-parts : (xs ys : List ℕ) → IsDistinct (xs ++ ys) → IsDistinct xs × IsDistinct ys × Apart xs ys
distinct-parts [] ys h = (tt, h, λ c e. absurd (both_ways false refl e))
distinct-parts (b ∷ xs) ys h =
    let r = distinct-parts xs ys h.1 in
    let p : (holds xs b ≡ false) × (holds ys b ≡ false) =
    or_parts (holds xs b) (holds ys b) (sym (holds-append xs ys b) ∙ h.0) in
    ((p.0, r.0), r.1, λ c e. apart_cons b xs ys p.1 r.2 c (or_cases (eqb b c) (holds xs c) e))

pub holds-reverse : (xs : List ℕ) (c : ℕ) → holds (reverse xs) c ≡ holds xs c
holds-reverse [] c = refl
holds-reverse (b ∷ xs) c = ap (λ z. holds z c) (reverse-cons b xs) ∙ holds-push (reverse xs) b c
    ∙ or_comm (holds (reverse xs) c) (eqb b c) ∙ ap (λ z. eqb b c || z) (holds-reverse xs c)

-- a list is distinct if it contains each city at most once

pub held : (xs : List ℕ) (c : ℕ) → 1 ≤ occurrences c xs → holds xs c ≡ true
held [] c h = absurd (omega (arith, h, occurrences-nil c))
held (b ∷ xs) c h =
    elim (cases_eq c b) [
      | inl e ↦ or_left (eqb b c) (holds xs c) (eq-eqb b c (sym e))
      | inr ne ↦ or_right (eqb b c) (holds xs c) (held xs c (omega (arith, h, occurrences-other c b xs ne)))
    ]

pub counted : (xs : List ℕ) (c : ℕ) → holds xs c ≡ true → 1 ≤ occurrences c xs
counted [] c h = absurd (both_ways false refl h)
counted (b ∷ xs) c h =
    elim (cases_eq c b) [
      | inl e ↦ omega (arith, occurrences-same c b xs e)
      | inr ne ↦
          let k : holds xs c ≡ true = ap (λ z. z || holds xs c) (sym (ne_eqb b c (λ e. ne (sym e)))) ∙ h in
          omega (arith, occurrences-other c b xs ne, counted xs c k)
    ]

once_of : (xs : List ℕ) → IsDistinct xs → HoldsOnce xs
once_of [] h c = omega (arith, occurrences-nil c)
once_of (b ∷ xs) h c =
    elim (cases_eq c b) [
      | inl e ↦ once_at (cases_lt 0 (occurrences c xs)) e
      | inr ne ↦ omega (arith, occurrences-other c b xs ne, once_of xs h.1 c)
    ]
  where
    once_at : (0 < occurrences c xs) ⊎ (occurrences c xs ≤ 0) → c ≡ b → occurrences c (b ∷ xs) ≤ 1
    once_at (inl k) e = absurd (both_ways (holds xs b) h.0 (subst (λ z. holds xs z ≡ true) e (held xs c (omega arith))))
    once_at (inr k) e = omega (arith, occurrences-same c b xs e)

fewer_in : (b c : ℕ) (xs : List ℕ) → occurrences c (b ∷ xs) ≤ 1 → (c ≡ b) ⊎ (c ≡ b → ⊥) → occurrences c xs ≤ 1
fewer_in b c xs h (inl e) = omega (arith, h, occurrences-same c b xs e)
fewer_in b c xs h (inr ne) = omega (arith, h, occurrences-other c b xs ne)

pub distinct_of : (xs : List ℕ) → HoldsOnce xs → IsDistinct xs
distinct_of [] h = tt
distinct_of (b ∷ xs) h = (
  false_from_ne_true (holds xs b)
      (λ e. let k : 1 ≤ occurrences b xs = counted xs b e in
      absurd (omega (arith, k, h b, occurrences-same b b xs refl))),
  distinct_of xs (λ c. fewer_in b c xs (h c) (cases_eq c b)),
)

-- D has as many cities as C, and contains each as often
abbrev pub HasSameCities : List ℕ → List ℕ → Type 0
HasSameCities C D = (length D ≡ length C) × ((c : ℕ) → occurrences c D ≡ occurrences c C)

pub distinct_same : (C D : List ℕ) → HasSameCities C D → IsDistinct C → IsDistinct D
distinct_same C D same h = distinct_of D (λ c. omega (arith, same.1 c, once_of C h c))

pub length-rotation : (X Y : List ℕ) → IsRotation X Y → length Y ≡ length X
length-rotation X Y h =
    omega (arith, ap length h.before, ap length h.after, length-append h.front h.back, length-append h.back h.front)

pub cities-cycle : (C X : List ℕ) → SameCycle C X → HasSameCities C X
cities-cycle C X (inl h) = (length-rotation C X h, λ c. occurrences-rotation c h)
cities-cycle C X (inr h) = (
  omega (arith, length-rotation C (reverse X) h, length-reverse X),
  λ c. omega (arith, occurrences-rotation c h, occurrences-reverse c X),
)

pub distinct-cycle : (C X : List ℕ) → SameCycle C X → IsDistinct C → IsDistinct X
distinct-cycle C X h e = distinct_same C X (cities-cycle C X h) e

pub distinct-rotation : (X Y : List ℕ) → IsRotation X Y → IsDistinct X → IsDistinct Y
distinct-rotation X Y h e = distinct-cycle X Y (inl h) e

pub distinct-reverse : (X : List ℕ) → IsDistinct X → IsDistinct (reverse X)
distinct-reverse X h = distinct_same X (reverse X) (length-reverse X, λ c. occurrences-reverse c X) h

-- the last city of a path

before_last : (b : ℕ) (xs : List ℕ) → (us : List ℕ) × (b ∷ xs ≡ us ++ last_from b xs ∷ [])
before_last b [] = ([], refl)
before_last b (c ∷ xs) = let r = before_last c xs in (b ∷ r.0, ap (λ z. b ∷ z) r.1)

pub split_last : (X : List ℕ) (b a : ℕ) → Spans X b a → (us : List ℕ) × (X ≡ us ++ a ∷ [])
split_last [] b a h = absurd h
split_last (c ∷ xs) b a h = let r = before_last c xs in (r.0, r.1 ∙ ap (λ z. r.0 ++ z ∷ []) h.1)

-- neighbours

next_one : (b : ℕ) → (next_city (b ∷ []) b ≡ b) × (prev_city (b ∷ []) b ≡ b)
unfolding next_city prev_city
next_one b =
    let e : (place_of b (b ∷ []) + 1) % 1 ≡ 0 = omega arith in
    let f : (place_of b (b ∷ []) + 1 - 1) % 1 ≡ 0 = omega arith in
    (ap (λ z. slice_index (b ∷ []) z) e, ap (λ z. slice_index (b ∷ []) z) f)

rotation_of_one : (C : List ℕ) (b : ℕ) → IsRotation C (b ∷ []) → C ≡ b ∷ []
rotation_of_one C b h = one_part h.front h.back h.before h.after
  where
    one_part : (us vs : List ℕ) → C ≡ us ++ vs → b ∷ [] ≡ vs ++ us → C ≡ b ∷ []
    one_part us [] h k = h ∙ append-nil us ∙ sym k
    one_part [] (v ∷ vs) h k = h ∙ sym (k ∙ append-nil (v ∷ vs))
    one_part (u ∷ us) (v ∷ vs) h k = absurd (omega (arith, ap length k, length-append (v ∷ vs) (u ∷ us)))

-- if a rotation begins with b and ends with a, then b comes after a, and a before b
beside_of : (C D : List ℕ) (b a : ℕ) → IsRotation C D → Spans D b a → IsDistinct C →
    (next_city C a ≡ b) × (prev_city C b ≡ a)
beside_of C [] b a h s d = absurd s
beside_of C (x ∷ []) b a h s d =
    let e : C ≡ x ∷ [] = rotation_of_one C x h in
    let n = next_one x in (
      subst (λ z. next_city C z ≡ b) s.1
          (subst (λ z. next_city C x ≡ z) s.0 (subst (λ z. next_city z x ≡ x) (sym e) n.0)),
      subst (λ z. prev_city C z ≡ a) s.0
          (subst (λ z. prev_city C x ≡ z) s.1 (subst (λ z. prev_city z x ≡ x) (sym e) n.1)),
    )
beside_of C (x ∷ y ∷ D) b a h s d =
    let r = split_last (y ∷ D) y a (refl, s.1) in
    let e : x ∷ y ∷ D ≡ (b ∷ r.0) ++ a ∷ [] = cc in
    Neighbours-rotation C [] r.0 a b (once_of C d)
    (rotation-trans C ((b ∷ r.0) ++ a ∷ []) (a ∷ b ∷ r.0) (subst (λ z. IsRotation C z) e h)
    (turned (b ∷ r.0) (a ∷ [])))

pub next_of : (C D : List ℕ) (b a : ℕ) → IsRotation C D → Spans D b a → IsDistinct C → next_city C a ≡ b
next_of C D b a h s d = (beside_of C D b a h s d).0

pub prev_of : (C D : List ℕ) (b a : ℕ) → IsRotation C D → Spans D b a → IsDistinct C → prev_city C b ≡ a
prev_of C D b a h s d = (beside_of C D b a h s d).1

pub next_both : (C A B : List ℕ) (a b c d : ℕ) → IsRotation C (A ++ B) → IsDistinct C → Spans A d a → Spans B b c →
    (b ≡ next_city C a) × (d ≡ next_city C c)
next_both C A B a b c d h e p q = (
  sym (next_of C (B ++ A) b a (rotation-trans C (A ++ B) (B ++ A) h (turned A B)) (Spans-append B A b c d a q p) e),
  sym (next_of C (A ++ B) d c h (Spans-append A B d a b c p q) e),
)

pub prev_both : (C A B : List ℕ) (a b c d : ℕ) → IsRotation C (reverse (A ++ B)) → IsDistinct C → Spans A d a →
    Spans B b c → (b ≡ prev_city C a) × (d ≡ prev_city C c)
prev_both C A B a b c d h e p q = (
  sym (prev_of C (reverse (B ++ A)) a b
      (rotation-trans C (reverse (A ++ B)) (reverse (B ++ A)) h (rotation-reverse (A ++ B) (B ++ A) (turned A B)))
      (Spans-reverse (B ++ A) b a (Spans-append B A b c d a q p)) e),
  sym (prev_of C (reverse (A ++ B)) c d h (Spans-reverse (A ++ B) d c (Spans-append A B d a b c p q)) e),
)

pub turned_back : (C X : List ℕ) → IsRotation C (reverse X) → IsRotation (reverse C) X
turned_back C X h = subst (λ z. IsRotation (reverse C) z) (reverse-reverse X) (rotation-reverse C (reverse X) h)

-- b and d come right after a and c, or right before them
abbrev pub Steps : List ℕ → ℕ → ℕ → ℕ → ℕ → Type 0
Steps C a b c d = ((b ≡ next_city C a) × (d ≡ next_city C c)) ⊎ ((b ≡ prev_city C a) × (d ≡ prev_city C c))

-- two paths that make up a cycle are joined by edges of one direction
pub steps_of : (C A B : List ℕ) (a b c d : ℕ) → SameCycle C (A ++ B) → IsDistinct C → Spans A d a → Spans B b c →
    Steps C a b c d
steps_of C A B a b c d (inl h) e p q = inl (next_both C A B a b c d h e p q)
steps_of C A B a b c d (inr h) e p q = inr (prev_both C A B a b c d h e p q)

pub holds-last : (X : List ℕ) (b a : ℕ) → Spans X b a → holds X a ≡ true
holds-last X b a h = let r = split_last X b a h in ap (λ z. holds z a) r.1 ∙ holds-push_same r.0 a

pub holds-first : (X : List ℕ) (b a : ℕ) → Spans X b a → holds X b ≡ true
holds-first [] b a h = absurd h
holds-first (c ∷ xs) b a h = or_left (eqb c b) (holds xs b) (eq-eqb c b h.0)

-- members of two disjoint lists differ
pub apart-ne : (X Y : List ℕ) (a b : ℕ) → Apart X Y → holds X a ≡ true → holds Y b ≡ true → a ≢ b
apart-ne X Y a b h p q e = both_ways (holds Y a) (h a p) (subst (λ z. holds Y z ≡ true) (sym e) q)

pub one_city : (X : List ℕ) (x : ℕ) → Spans X x x → IsDistinct X → reverse X ≡ X
one_city [] x h d = refl
one_city (c ∷ []) x h d = refl
one_city (c ∷ e ∷ X) x h d =
    absurd (both_ways (holds (e ∷ X) c) d.0
    (subst (λ z. holds (e ∷ X) z ≡ true) (sym h.0) (holds-last (e ∷ X) e x (refl, h.1))))
