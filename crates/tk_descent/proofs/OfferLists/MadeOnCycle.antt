-- Moves made on a cycle: 2-opt moves, and segments inserted between two neighbours.
use Rattle.std.proofs.Common.{◌≡◌, ℕ, ◌≤◌, ◌≢◌, true, false, List, [], ◌∷◌, ◌++◌, length, reverse, refl, sym, ◌∙◌, ap}
use Rattle.std.proofs.Common.{inl, inr, subst, append_assoc}
use Rattle.tk_tour.specs.Tour.{IsRotation, SameCycle}
use Rattle.tk_descent.proofs.MovesOnTours.Views.{IsMadeOn, Parts}
use Rattle.tk_descent.proofs.MovesOnTours.Paths.{Spans, last_from}
use Rattle.tk_distance.specs.Holding.{holds}
use Rattle.tk_descent.specs.Offers.{covers}
use Rattle.tk_descent.specs.declared.offer.Offer.TheVariants.{Two, Or}
use Rattle.tk_descent.specs.declared.offer.Segment.{Segment}
use Rattle.tk_descent.proofs.Lists.{holds-push_other}
use Rattle.tk_descent.proofs.MovesOnTours.Length.{Spans-append}
use Rattle.tk_descent.proofs.MovesOnTours.Steps.{Apart, turned, rotation-trans, distinct-rotation, distinct-parts}
use Rattle.tk_descent.proofs.MovesOnTours.Steps.{apart-ne, holds-first, holds-last}
use Rattle.tk_descent.proofs.OfferLists.Ways.{same_cycle, member_split, spans_push, holds-rotation, rotated_to}
use Rattle.tk_descent.proofs.OfferLists.Ways.{spans_two, last_same, Ways}

-- a segment from x, of at most m cities, is on the cycle and covers its own cities
pub record Stands (C : List ℕ) (m x : ℕ) (s : Segment) : Type 0 where
  pub cities : List ℕ
  pub rest : List ℕ
  pub cycle : IsRotation C (cities ++ rest)
  pub short : length cities ≤ m
  pub is_segment : Spans cities x s.last
  pub is_rest : Spans rest s.after s.before
  pub own : (c : ℕ) → covers x s c ≡ false → holds cities c ≡ false

-- on a cycle K, which is the cycle C or goes round it the other way
module _ {K : List ℕ} {nx pv : ℕ → ℕ} (ways : Ways K nx pv) {C : List ℕ}
    (same : (X : List ℕ) → IsRotation K X → SameCycle C X) where
  two_of : (m x y : ℕ) (us vs : List ℕ) → IsRotation K ((us ++ y ∷ vs) ++ x ∷ []) → IsMadeOn m (Two x (nx x) y (nx y)) C
  two_of m x y us vs h =
      let A = vs ++ x ∷ [] in
      let B = us ++ y ∷ [] in
      let e : (us ++ y ∷ vs) ++ x ∷ [] ≡ B ++ A = ap (λ z. z ++ x ∷ []) (sym (append_assoc us (y ∷ []) vs))
      ∙ append_assoc B vs (x ∷ []) in
      let r : IsRotation K (A ++ B) =
      rotation-trans K (B ++ A) (A ++ B) (subst (λ z. IsRotation K z) e h) (turned B A) in
      let p = spans_push vs x in
      let q = spans_push us y in
      let n1 : q.0 ≡ nx x =
      sym (ways.next (B ++ A) q.0 x (rotation-trans K (A ++ B) (B ++ A) r (turned A B))
      (Spans-append B A q.0 y p.0 x q.1 p.1)) in
      let n2 : p.0 ≡ nx y = sym (ways.next (A ++ B) p.0 y r (Spans-append A B p.0 x q.0 y p.1 q.1)) in (
        A ++ reverse B,
        (
          record {
            kept = A;
            turned = B;
            cycle = same (A ++ B) r;
            is_kept = subst (λ z. Spans A z x) n2 p.1;
            is_turned = subst (λ z. Spans B z y) n1 q.1;
          },
          same_cycle (A ++ reverse B),
        ),
      )

  pub two_on : (m x y : ℕ) → holds K x ≡ true → holds K y ≡ true → y ≢ x → IsMadeOn m (Two x (nx x) y (nx y)) C
  two_on m x y hx hy ne =
      let s = member_split K x hx in
      let r = rotated_to s.0 s.1.0 x K s.1.1 in
      let E = s.1.0 ++ s.0 in
      let t = member_split E y (sym (holds-push_other E x y ne) ∙ sym (holds-rotation K (E ++ x ∷ []) y r) ∙ hy) in
      two_of m x y t.0 t.1.0 (subst (λ z. IsRotation K (z ++ x ∷ [])) t.1.1 r)

  -- y with its neighbour w in the rest that a segment leaves
  module _ {m x : ℕ} {s : Segment} (t : Stands K m x s) (y w : ℕ) (wR : holds t.rest w ≡ true) where
    abbrev S : List ℕ
    S = t.cities

    apart : Apart S t.rest
    apart = (distinct-parts S t.rest (distinct-rotation K (S ++ t.rest) t.cycle ways.distinct)).2

    abbrev parts : (P Q : List ℕ) {c : ℕ} (d : ℕ) → IsRotation K (S ++ P ++ Q) → Spans P s.after c →
        Spans Q d s.before → Parts m C s.before x s.last s.after c d
    parts P Q d whole hP hQ = record {
      segment = S;
      ahead = P;
      rest = Q;
      cycle = same (S ++ P ++ Q) whole;
      short = t.short;
      is_segment = t.is_segment;
      is_ahead = hP;
      is_rest = hQ;
    }

    pub or_next : (us vs : List ℕ) → t.rest ≡ us ++ y ∷ vs → w ≡ nx y →
        IsMadeOn m (Or s.before x s.last s.after y w) C
    or_next us [] k n =
        let last : s.before ≡ y = last_same us y s.after s.before (subst (λ z. Spans z s.after s.before) k t.is_rest) in
        absurd (apart-ne S t.rest x w apart (holds-first S x s.last t.is_segment) wR
        (sym (n ∙ ap nx (sym last) ∙ ways.next (S ++ t.rest) x s.before t.cycle
        (Spans-append S t.rest x s.last s.after s.before t.is_segment t.is_rest))))
    or_next us (r ∷ vs) k n =
        let P = us ++ y ∷ [] in
        let Q = r ∷ vs in
        let cut : t.rest ≡ P ++ Q = k ∙ sym (append_assoc us (y ∷ []) Q) in
        let p = spans_push us y in
        let ends = spans_two P Q p.0 y r (last_from r vs) s.after s.before p.1 (refl, refl)
        (subst (λ z. Spans z s.after s.before) cut t.is_rest) in
        let whole : IsRotation K (S ++ P ++ Q) =
        subst (λ z. IsRotation K z) (ap (λ z. S ++ z) cut ∙ sym (append_assoc S P Q)) t.cycle in
        let next : nx y ≡ r =
        ways.next (Q ++ (S ++ P)) r y (rotation-trans K (S ++ P ++ Q) (Q ++ (S ++ P)) whole (turned (S ++ P) Q))
        (Spans-append Q (S ++ P) r (last_from r vs) x y (refl, refl)
        (Spans-append S P x s.last p.0 y t.is_segment p.1)) in (
          P ++ S ++ Q,
          inl (
            parts P Q w whole (subst (λ z. Spans P z y) ends.0 p.1) (sym (n ∙ next), ends.1),
            same_cycle (P ++ S ++ Q),
          ),
        )

    pub or_prev : (us vs : List ℕ) → t.rest ≡ us ++ y ∷ vs → w ≡ pv y →
        IsMadeOn m (Or s.before x s.last s.after y w) C
    or_prev [] vs k n =
        let first : s.after ≡ y = sym (subst (λ z. Spans z s.after s.before) k t.is_rest).0 in
        absurd (apart-ne S t.rest s.last w apart (holds-last S x s.last t.is_segment) wR
        (sym (n ∙ ap pv (sym first)
        ∙ ways.prev (t.rest ++ S) s.after s.last
        (rotation-trans K (S ++ t.rest) (t.rest ++ S) t.cycle (turned S t.rest))
        (Spans-append t.rest S s.after s.before x s.last t.is_rest t.is_segment))))
    or_prev (u ∷ us) vs k n =
        let P = u ∷ us in
        let Q = y ∷ vs in
        let ends = spans_two P Q u (last_from u us) y (last_from y vs) s.after s.before (refl, refl) (refl, refl)
        (subst (λ z. Spans z s.after s.before) k t.is_rest) in
        let whole : IsRotation K (S ++ P ++ Q) =
        subst (λ z. IsRotation K z) (ap (λ z. S ++ z) k ∙ sym (append_assoc S P Q)) t.cycle in
        let prev : pv y ≡ last_from u us =
        ways.prev (Q ++ (S ++ P)) y (last_from u us)
        (rotation-trans K (S ++ P ++ Q) (Q ++ (S ++ P)) whole (turned (S ++ P) Q))
        (Spans-append Q (S ++ P) y (last_from y vs) x (last_from u us) (refl, refl)
        (Spans-append S P x s.last u (last_from u us) t.is_segment (refl, refl))) in (
          P ++ reverse S ++ Q,
          inr (parts P Q y whole (ends.0, sym (n ∙ prev)) (refl, ends.1), same_cycle (P ++ reverse S ++ Q)),
        )
