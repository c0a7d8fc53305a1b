-- The move of each offer of the list can be made on the cycle.
use Rattle.std.proofs.Common.{◌≡◌, ℕ, ◌<◌, ◌≤◌, ◌≢◌, ◌⊎◌, Bool, true, false, cond, ◌||◌, eqb, List, [], ◌∷◌, ◌++◌}
use Rattle.std.proofs.Common.{length, reverse, Some, refl, sym, ◌∙◌, ap, arith, inl, inr, subst, ◌&&◌, leb}
use Rattle.std.proofs.Common.{take, flat_map, slice_index, get_or, zero, suc}
use Rattle.std.proofs.lemmas.Bool.{or_parts, and_parts, leb-true, eqb-false, ne_eqb}
use Rattle.std.proofs.lemmas.List.{length-reverse}
use Rattle.std.specs.List.{All}
use Rattle.std.proofs.lemmas.List.Elements.{All-cons, All-head, All-nil, All-tail}
use Rattle.tk_near.specs.Near.{IsOther}
use Rattle.tk_descent.specs.Machine.{IsOfferOn}
use Rattle.tk_tour.specs.Tour.{IsRotation, SameCycle, next_city, prev_city}
use Rattle.tk_descent.proofs.MovesOnTours.Views.{IsMadeOn, offer_on}
use Rattle.tk_descent.proofs.MovesOnTours.Paths.{Spans, last_from, IsRound}
use Rattle.tk_distance.specs.Holding.{IsDistinct, holds}
use Rattle.tk_descent.specs.Ruled.{Each, IsOnTour}
use Rattle.tk_descent.specs.Offers.{Makes}
use Rattle.tk_descent.specs.Offers.{offers_between, first_allowed, is_taken, covers, segment_of_one, segment_of_two}
use Rattle.tk_descent.specs.Offers.{segment_of_three, all_segments, segments, or_offer, or_offers, offers_with, offers}
use Rattle.tk_descent.specs.Offers.{EndsIn, IsSegmentIn}
use Rattle.tk_distance.specs.Cities.{IsCity}
use Rattle.tk_descent.specs.declared.offer.Segment.{Segment}
use Rattle.tk_descent.specs.declared.offer.Offer.{Offer}
use Rattle.tk_descent.specs.declared.offer.Offer.TheVariants.{Two, Or}
use Rattle.tk_descent.proofs.Lists.{holds-append}
use Rattle.tk_descent.proofs.MovesOnTours.Length.{Spans-append}
use Rattle.tk_descent.proofs.MovesOnTours.Steps.{turned, rotation-trans}
use Rattle.tk_descent.proofs.MovesOnTours.Steps.{holds-first, holds-reverse, length-rotation}
use Rattle.tk_descent.proofs.OfferLists.Count.{step_improves}
use Rattle.tk_descent.proofs.OfferLists.Searching.{all_of_five}
use Rattle.tk_descent.proofs.OfferLists.MadeOnCycle.{Stands, two_on, or_next, or_prev}
use Rattle.tk_descent.proofs.OfferLists.Ways.{member_split, spans_push, holds-rotation, rotated_to}
use Rattle.tk_descent.proofs.OfferLists.Ways.{Ways, ways_on, ways_back, starts, step_in, rotated, rotated_back}

eqb-swap : (a b : ℕ) → eqb a b ≡ false → eqb b a ≡ false
eqb-swap a b h = ne_eqb b a (λ e. eqb-false a b h (sym e))

uncovered : (x u v c : ℕ) → ((eqb c x || eqb c u) || eqb c v) ≡ false → (eqb x c ≡ false) × (eqb u c ≡ false)
    × (eqb v c ≡ false)
uncovered x u v c h =
    let p : ((eqb c x || eqb c u) ≡ false) × (eqb c v ≡ false) = or_parts (eqb c x || eqb c u) (eqb c v) h in
    let q : (eqb c x ≡ false) × (eqb c u ≡ false) = or_parts (eqb c x) (eqb c u) p.0 in
    (eqb-swap c x q.0, eqb-swap c u q.1, eqb-swap c v p.1)

module _ {C : List ℕ} {nx pv : ℕ → ℕ} (ways : Ways C nx pv) where
  pub next_member : (y : ℕ) → holds C y ≡ true → holds C (nx y) ≡ true
  next_member y h =
      let s = member_split C y h in
      let r = rotated_to s.0 s.1.0 y C s.1.1 in
      let p = spans_push (s.1.0 ++ s.0) y in
      subst (λ z. holds C z ≡ true) (sym (ways.next ((s.1.0 ++ s.0) ++ y ∷ []) p.0 y r p.1))
      (holds-rotation C ((s.1.0 ++ s.0) ++ y ∷ []) p.0 r ∙ holds-first ((s.1.0 ++ s.0) ++ y ∷ []) p.0 y p.1)

  -- an Or-opt offer of a segment, with its neighbours
  or_dir : {D : List ℕ} → ((X : List ℕ) → IsRotation C X → SameCycle D X) → {m x : ℕ} {s : Segment} →
      Stands C m x s → (y w : ℕ) → holds C y ≡ true → holds C w ≡ true → (w ≡ nx y) ⊎ (w ≡ pv y) →
      covers x s y ≡ false → covers x s w ≡ false → IsMadeOn m (Or s.before x s.last s.after y w) D
  or_dir same t y w hy hw n cy cw =
      let rest : (c : ℕ) → holds C c ≡ true → holds t.cities c ≡ false → holds t.rest c ≡ true = λ c h no.
      ap (λ z. z || holds t.rest c) (sym no) ∙ sym (holds-append t.cities t.rest c)
      ∙ sym (holds-rotation C (t.cities ++ t.rest) c t.cycle) ∙ h in
      let at = rest w hw (t.own w cw) in
      let v = member_split t.rest y (rest y hy (t.own y cy)) in
      elim n [
        | inl f ↦ or_next ways same t y w at v.0 v.1.0 v.1.1 f
        | inr f ↦ or_prev ways same t y w at v.0 v.1.0 v.1.1 f
      ]

  stand : (m x middle last : ℕ) (S : List ℕ) (b : ℕ) (E : List ℕ) → IsRotation C (S ++ b ∷ E) → Spans S x last →
      length S ≤ m → ((c : ℕ) → (eqb x c ≡ false) × (eqb middle c ≡ false) × (eqb last c ≡ false) → holds S c ≡ false) →
      Stands C m x (record { before = pv x; middle = middle; last = last; after = nx last })
  stand m x middle last S b E r hS short own =
      let R = b ∷ E in
      let a = last_from b E in
      record {
        cities = S;
        rest = R;
        cycle = r;
        short = short;
        is_segment = hS;
        is_rest = (
          sym (ways.next (R ++ S) b last (rotation-trans C (S ++ R) (R ++ S) r (turned S R))
              (Spans-append R S b a x last (refl, refl) hS)),
          sym (ways.prev (S ++ R) x a r (Spans-append S R x last b a hS (refl, refl))),
        );
        own = λ c h. own c (uncovered x middle last c h);
      }

  -- the segments of one, two and three cities from x on
  module _ (m x : ℕ) where
    one_at : (E : List ℕ) × IsRotation C (x ∷ E) → 1 ≤ m → 3 ≤ length C → Stands C m x (segment_of_one nx pv x)
    one_at (b ∷ E, r) low big = stand m x x x (x ∷ []) b E r (refl, refl) (omega arith) (λ c h. rw h.0)
    one_at (E, r) low big = absurd (omega (arith, length-rotation C (x ∷ E) r))

    two_at : (E : List ℕ) × IsRotation C (x ∷ E) → 2 ≤ m → 4 ≤ length C → Stands C m x (segment_of_two nx pv x)
    two_at (b ∷ c ∷ E, r) low big =
        let k = step_in ways [] (c ∷ E) x b r in
        stand m x x (nx x) (x ∷ nx x ∷ []) c E (subst (λ z. IsRotation C (x ∷ z ∷ c ∷ E)) (sym k) r) (refl, refl)
        (omega arith) (λ c h. rw (h.0, h.2))
    two_at (E, r) low big = absurd (omega (arith, length-rotation C (x ∷ E) r))

    three_at : (E : List ℕ) × IsRotation C (x ∷ E) → 3 ≤ m → 5 ≤ length C →
        Stands C m x (segment_of_three nx pv x)
    three_at (b ∷ c ∷ f ∷ E, r) low big =
        let k = step_in ways [] (c ∷ f ∷ E) x b r in
        let l = step_in ways (x ∷ []) (f ∷ E) b c r in
        stand m x (nx x) (nx (nx x)) (x ∷ nx x ∷ nx (nx x) ∷ []) f E
        (subst (λ z. IsRotation C (x ∷ z ∷ nx z ∷ f ∷ E)) (sym k)
        (subst (λ z. IsRotation C (x ∷ b ∷ z ∷ f ∷ E)) (sym l) r)) (refl, refl) (omega arith)
        (λ c h. rw (h.0, h.1, h.2))
    three_at (E, r) low big = absurd (omega (arith, length-rotation C (x ∷ E) r))

pub each-append : (F : Offer → Type 0) (xs ys : List Offer) → Each F xs → Each F ys → Each F (xs ++ ys)
each-append F [] ys h k = k
each-append F (o ∷ xs) ys h k = (h.0, each-append F xs ys h.1 k)

-- the parts of a list
pub each-first : (F : Offer → Type 0) (xs ys : List Offer) → Each F (xs ++ ys) → Each F xs
each-first F [] ys h = tt
each-first F (o ∷ xs) ys h = (h.0, each-first F xs ys h.1)

pub each-second : (F : Offer → Type 0) (xs ys : List Offer) → Each F (xs ++ ys) → Each F ys
each-second F [] ys h = h
each-second F (o ∷ xs) ys h = each-second F xs ys h.1

pub each-at : {X : Type 0} (F : Offer → Type 0) (f : X → List Offer) (xs : List X) (i : ℕ) (z : X) → i < length xs →
    Each F (flat_map f xs) → Each F (f (get_or xs i z))
each-at F f [] i z at h = absurd (omega arith)
each-at F f (x ∷ xs) zero z at h = each-first F (f x) (flat_map f xs) h
each-at F f (x ∷ xs) (suc i) z at h = each-at F f xs i z (omega arith) (each-second F (f x) (flat_map f xs) h)

pub each_flat : {X : Type 0} (F : Offer → Type 0) (f : X → List Offer) (xs : List X) → All (λ x. Each F (f x)) xs →
    Each F (flat_map f xs)
each_flat F f [] h = tt
each_flat F f (x ∷ xs) h =
    each-append F (f x) (flat_map f xs) (All-head (λ v. Each F (f v)) x xs h)
    (each_flat F f xs (All-tail (λ v. Each F (f v)) x xs h))

pub found_has : (F : Offer → Type 0) (d : ℕ → ℕ → ℕ) (may : Offer → Bool) (os : List Offer) (p : Offer) → Each F os →
    first_allowed d may os ≡ Some p → F p
found_has F d may [] p h e = cc
found_has F d may (o ∷ os) p h e =
    step_improves (is_taken d may o) o p (first_allowed d may os) F (λ b. h.0) (found_has F d may os p h.1) e

each_cond : (F : Offer → Type 0) (b : Bool) (o : Offer) → (b ≡ false → F o) → Each F (cond b [] (o ∷ []))
each_cond F true o h = tt
each_cond F false o h = (h refl, tt)

pub each_or : (F : Offer → Type 0) (x y : ℕ) (s : Segment) (w : ℕ) →
    (covers x s y ≡ false → covers x s w ≡ false → F (Or s.before x s.last s.after y w)) → Each F (or_offer x y s w)
each_or F x y s w h = each_cond F (covers x s y || covers x s w) (Or s.before x s.last s.after y w)
    (λ e. let p : (covers x s y ≡ false) × (covers x s w ≡ false) = or_parts (covers x s y) (covers x s
    w) e in h p.0 p.1)

abbrev OnCycle : List ℕ → ℕ → Offer → Type 0
OnCycle C m o = IsMadeOn m o C × EndsIn (length C) o

-- all offers with one city
module _ (C : List ℕ) (m x y : ℕ) (tour : IsRound C) (low : 1 ≤ m) (hx : holds C x ≡ true) (hy : holds C y ≡ true)
    (ne : y ≢ x) where
  dis : IsDistinct C
  dis = tour.distinct

  abbrev nx : ℕ → ℕ
  nx = next_city C

  abbrev pv : ℕ → ℕ
  pv = prev_city C

  in_range : (c : ℕ) → holds C c ≡ true → IsCity (length C) c
  in_range c h = (tour.members c).0 h

  nm : (c : ℕ) → holds C c ≡ true → holds C (nx c) ≡ true
  nm c h = next_member (ways_on C dis) c h

  pm : (c : ℕ) → holds C c ≡ true → holds C (pv c) ≡ true
  pm c h = sym (holds-reverse C (pv c)) ∙ next_member (ways_back C dis) c (holds-reverse C c ∙ h)

  two_next : OnCycle C m (Two x (nx x) y (nx y))
  two_next = (
    two_on (ways_on C dis) (rotated C) m x y hx hy ne,
    (in_range x hx, in_range (nx x) (nm x hx), in_range y hy, in_range (nx y) (nm y hy)),
  )

  two_prev : OnCycle C m (Two x (pv x) y (pv y))
  two_prev = (
    two_on (ways_back C dis) (rotated_back C) m x y (holds-reverse C x ∙ hx) (holds-reverse C y ∙ hy) ne,
    (in_range x hx, in_range (pv x) (pm x hx), in_range y hy, in_range (pv y) (pm y hy)),
  )

  -- the Or-opt offers of a segment between cities
  module _ (s : Segment) (in' : IsSegmentIn (length C) s) where
    both : ((w : ℕ) → holds C w ≡ true → (w ≡ nx y) ⊎ (w ≡ pv y) → covers x s y ≡ false → covers x s w ≡ false →
        IsMadeOn m (Or s.before x s.last s.after y w) C) → Each (OnCycle C m) (or_offers x y (nx y) (pv y) s)
    both made =
        let put : (w : ℕ) → holds C w ≡ true → (w ≡ nx y) ⊎ (w ≡ pv y) → Each (OnCycle C m) (or_offer x y s w) =
        λ w hw n. each_or (OnCycle C m) x y s w (λ cy cw. (
          made w hw n cy cw,
          (in'.0, in_range x hx, in'.1, in'.2, in_range y hy, in_range w hw),
        )) in
        each-append (OnCycle C m) (or_offer x y s (nx y)) (or_offer x y s (pv y)) (put (nx y) (nm y hy) (inl refl))
        (put (pv y) (pm y hy) (inr refl))

    ahead : Stands C m x s → Each (OnCycle C m) (or_offers x y (nx y) (pv y) s)
    ahead t = both (λ w hw n cy cw. or_dir (ways_on C dis) (rotated C) t y w hy hw n cy cw)

    back : Stands (reverse C) m x s → Each (OnCycle C m) (or_offers x y (nx y) (pv y) s)
    back t = both (λ w hw n cy cw.
        or_dir (ways_back C dis) (rotated_back C) t y w (holds-reverse C y ∙ hy) (holds-reverse C w ∙ hw)
        (elim n [ inl e ↦ inr e | inr e ↦ inl e ]) cy cw)

  abbrev f : Segment → List Offer
  f s = or_offers x y (nx y) (pv y) s

  abbrev e1 : Segment
  e1 = segment_of_one nx pv x

  abbrev e2 : Segment
  e2 = segment_of_two nx pv x

  abbrev e3 : Segment
  e3 = segment_of_two pv nx x

  abbrev e4 : Segment
  e4 = segment_of_three nx pv x

  abbrev e5 : Segment
  e5 = segment_of_three pv nx x

  -- the first and the second neighbours, as cities
  n1 : IsCity (length C) (nx x)
  n1 = in_range (nx x) (nm x hx)

  p1 : IsCity (length C) (pv x)
  p1 = in_range (pv x) (pm x hx)

  n2 : IsCity (length C) (nx (nx x))
  n2 = in_range (nx (nx x)) (nm (nx x) (nm x hx))

  p2 : IsCity (length C) (pv (pv x))
  p2 = in_range (pv (pv x)) (pm (pv x) (pm x hx))

  s1 : 3 ≤ length C → Each (OnCycle C m) (f e1)
  s1 big = ahead e1 (p1, in_range x hx, n1) (one_at (ways_on C dis) m x (starts C x hx) low big)

  s2 : 2 ≤ m → 4 ≤ length C → Each (OnCycle C m) (f e2)
  s2 two big = ahead e2 (p1, n1, n2) (two_at (ways_on C dis) m x (starts C x hx) two big)

  -- the reversed cycle, from x
  turned_starts : (E : List ℕ) × IsRotation (reverse C) (x ∷ E)
  turned_starts = starts (reverse C) x (holds-reverse C x ∙ hx)

  s3 : 2 ≤ m → 4 ≤ length C → Each (OnCycle C m) (f e3)
  s3 two big = back e3 (n1, p1, p2) (two_at (ways_back C dis) m x turned_starts two (omega (arith, length-reverse C)))

  s4 : 3 ≤ m → 5 ≤ length C → Each (OnCycle C m) (f e4)
  s4 three big =
      ahead e4 (p1, n2, in_range (nx (nx (nx x))) (nm (nx (nx x)) (nm (nx x) (nm x hx))))
      (three_at (ways_on C dis) m x (starts C x hx) three big)

  s5 : 3 ≤ m → 5 ≤ length C → Each (OnCycle C m) (f e5)
  s5 three big =
      back e5 (n1, p2, in_range (pv (pv (pv x))) (pm (pv (pv x)) (pm (pv x) (pm x hx))))
      (three_at (ways_back C dis) m x turned_starts three (omega (arith, length-reverse C)))

  by_count : (a b c : Bool) → (a ≡ true → (5 ≤ length C) × (3 ≤ m)) → (b ≡ true → (4 ≤ length C) × (2 ≤ m)) →
      (c ≡ true → 3 ≤ length C) →
      Each (OnCycle C m) (flat_map f (take (cond a 5 (cond b 3 (cond c 1 0))) (all_segments nx pv x)))
  by_count true b c ha hb hc =
      let p = ha refl in
      each_flat (OnCycle C m) f (all_segments nx pv x) (all_of_five (λ s. Each (OnCycle C m) (f s)) e1 e2 e3 e4 e5
      (s1 (omega (arith, p.0))) (s2 (omega (arith, p.1)) (omega (arith, p.0)))
      (s3 (omega (arith, p.1)) (omega (arith, p.0))) (s4 p.1 p.0) (s5 p.1 p.0))
  by_count false true c ha hb hc =
      let p = hb refl in
      each-append (OnCycle C m) (f e1) (f e2 ++ (f e3 ++ [])) (s1 (omega (arith, p.0)))
      (each-append (OnCycle C m) (f e2) (f e3 ++ []) (s2 p.1 p.0) (each-append (OnCycle C m) (f e3) [] (s3 p.1 p.0) tt))
  by_count false false true ha hb hc = each-append (OnCycle C m) (f e1) [] (s1 (hc refl)) tt
  by_count false false false ha hb hc = tt

  pub with_on : Each (OnCycle C m) (offers_with nx pv (segments nx pv (length C) m x) x y)
  with_on =
      let n = length C in
      let parts : (k l : ℕ) → (leb k n && leb l m) ≡ true → (k ≤ n) × (l ≤ m) = λ k l e.
      let p : (leb k n ≡ true) × (leb l m ≡ true) = and_parts (leb k n) (leb l m) e in
      (leb-true k n p.0, leb-true l m p.1) in (
        two_next,
        (
          two_prev,
          by_count (leb 5 n && leb 3 m) (leb 4 n && leb 2 m) (leb 3 n) (parts 5 3) (parts 4 2) (leb-true 3 n),
        ),
      )

with_other : (C : List ℕ) (m x n y : ℕ) → IsRound C → 1 ≤ m → n ≡ length C → IsCity (length C) x → IsOther n x y →
    Each (OnCycle C m) (offers_between C m x y)
with_other C m x n y tour low size in' q =
    with_on C m x y tour low ((tour.members x).1 in') ((tour.members y).1 (q.0.0, omega (arith, size, q.0.1))) q.1

pub offers_on : (d : ℕ → ℕ → ℕ) (may : Offer → Bool) (C near : List ℕ) (m x n : ℕ) (o : Offer) → IsRound C →
    n ≡ length C → 1 ≤ m → IsCity (length C) x → All (IsOther n x) near →
    first_allowed d may (offers C m near x) ≡ Some o → IsOfferOn m o C × EndsIn (length C) o
offers_on d may C near m x n o tour size low in' others e =
    let r = found_has (OnCycle C m) d may (offers C m near x) o
    (each_flat (OnCycle C m) (offers_between C m x) near
    (λ k y l. with_other C m x n _ tour low size in' (others k y l))) e in
    (offer_on m o C r.0, r.1)

each_ends : (C : List ℕ) (m : ℕ) (os : List Offer) → Each (OnCycle C m) os → All (EndsIn (length C)) os
each_ends C m [] h = All-nil (EndsIn (length C))
each_ends C m (o ∷ os) h = All-cons (EndsIn (length C)) o os h.0.1 (each_ends C m os h.1)

-- the ends of the offers of x with a near city are cities
pub with_ends : (C near : List ℕ) (m x n k i : ℕ) (os : List Offer) → IsRound C → n ≡ length C → k ≡ length C → 1 ≤ m →
    IsCity (length C) x → All (IsOther n x) near → i < length near →
    os ≡ offers_between C m x (slice_index near i) → All (EndsIn k) os
with_ends C near m x n k i os tour size many low in' others at same =
    let h = with_other C m x n (slice_index near i) tour low size in' (others i 0 at) in
    subst (λ z. All (EndsIn z) os) (sym many) (each_ends C m os (subst (λ z. Each (OnCycle C m) z) (sym same) h))

pub more_made : (m : ℕ) (o : Offer) (C D : List ℕ) → m ≤ 3 → Makes m o C D → Makes 3 o C D
more_made m (Two a b c d) C D h k = k
more_made m (Or a x e b y w) C D h k = record {
  segment = k.segment;
  ahead = k.ahead;
  rest = k.rest;
  short = omega (arith, k.short);
  is_segment = k.is_segment;
  before = k.before;
  after = k.after;
}

pub more_on : (m : ℕ) (o : Offer) (C : List ℕ) → m ≤ 3 → IsOfferOn m o C → IsOfferOn 3 o C
more_on m o C h (D, k) = (D, more_made m o C D h k)

-- the moves of the offers of x with a near city can be made on the cycle
each_tour : (C : List ℕ) (m : ℕ) → m ≤ 3 → (os : List Offer) → Each (OnCycle C m) os → Each (IsOnTour C) os
each_tour C m small [] h = tt
each_tour C m small (o ∷ os) h =
    ((more_on m o C small (offer_on m o C h.0.0), h.0.1), each_tour C m small os h.1)

pub near_on : (C near : List ℕ) (m x n i : ℕ) → IsRound C → n ≡ length C → 1 ≤ m → m ≤ 3 → IsCity (length C) x →
    All (IsOther n x) near → i < length near → Each (IsOnTour C) (offers_between C m x (slice_index near i))
near_on C near m x n i tour size low small in' others at =
    each_tour C m small (offers_between C m x (slice_index near i))
    (with_other C m x n (slice_index near i) tour low size in' (others i 0 at))

each_all : (F : Offer → Type 0) (os : List Offer) → Each F os → All F os
each_all F [] h = All-nil F
each_all F (o ∷ os) h = All-cons F o os h.0 (each_all F os h.1)

pub near_all : (C near : List ℕ) (m x n i : ℕ) (os : List Offer) → IsRound C → n ≡ length C → 1 ≤ m → m ≤ 3 →
    IsCity (length C) x → All (IsOther n x) near → i < length near →
    os ≡ offers_between C m x (slice_index near i) → All (IsOnTour C) os
near_all C near m x n i os tour size low small in' others at same =
    subst (λ z. All (IsOnTour C) z) (sym same)
    (each_all (IsOnTour C) (offers_between C m x (slice_index near i))
    (near_on C near m x n i tour size low small in' others at))
