-- The ring after a move is what the move makes.
use Rattle.std.proofs.Common.{◌≡◌, ℕ, ◌≤◌, ◌⊎◌, true, false, cond, eqb, List, [], ◌∷◌, ◌++◌, length, reverse}
use Rattle.std.proofs.Common.{refl, sym, ◌∙◌, ap, arith, inl, inr, subst, append_assoc, append-nil}
use Rattle.std.proofs.lemmas.Bool.{or_parts, eq-eqb, ne_eqb, both_ways, false_from_ne_true}
use Rattle.std.proofs.lemmas.List.{reverse-reverse, length-reverse}
use Rattle.tk_distance.specs.Holding.{holds, IsDistinct}
use Rattle.tk_tour.specs.Tour.{SameCycle, IsRotation, next_city}
use Rattle.tk_descent.specs.Offers.{Makes}
use Rattle.tk_descent.specs.declared.offer.Offer.{Offer}
use Rattle.tk_descent.specs.declared.offer.Offer.TheVariants.{Two, Or}
use Rattle.tk_descent.proofs.Lists.{holds-here}
use Rattle.tk_descent.proofs.MovesOnTours.Length.{Spans-append, Spans-reverse}
use Rattle.tk_descent.proofs.MovesOnTours.Paths.{Spans}
use Rattle.tk_descent.proofs.MovesOnTours.Steps.{distinct-parts, distinct-reverse, distinct-rotation, split_last}
use Rattle.tk_descent.proofs.MovesOnTours.Steps.{turned, turned_back, rotation-trans, rotation-reverse, next_of}
use Rattle.tk_descent.proofs.MovesOnTours.Steps.{cycle-same, holds-first, holds-last, length-rotation}
use Rattle.tk_descent.proofs.MovesOnTours.Views.{Made, Halves, Parts, made_of}
use Rattle.tk_descent.proofs.OfferLists.Made.{not_next}
use Rattle.tk_rings.specs.After.{until, beyond, before, begun_at, seen, after_two, moved_between, after}

-- a list is cut at a city that stands in it once
cut_at : (us : List ℕ) (c : ℕ) (vs : List ℕ) → holds us c ≡ false →
    (until c (us ++ c ∷ vs) ≡ us ++ c ∷ []) × (beyond c (us ++ c ∷ vs) ≡ vs) × (before c (us ++ c ∷ vs) ≡ us)
cut_at [] c vs h =
    let e = eq-eqb c c refl in (
      ap (λ b. cond b (c ∷ []) (c ∷ until c vs)) e,
      ap (λ b. cond b vs (beyond c vs)) e,
      ap (λ b. cond b [] (c ∷ before c vs)) e,
    )
cut_at (u ∷ us) c vs h =
    let p : (eqb u c ≡ false) × (holds us c ≡ false) = or_parts (eqb u c) (holds us c) h in
    let r = cut_at us c vs p.1 in
    let xs : List ℕ = us ++ c ∷ vs in (
      ap (λ b. cond b (u ∷ []) (u ∷ until c xs)) p.0 ∙ ap (λ z. u ∷ z) r.0,
      ap (λ b. cond b xs (beyond c xs)) p.0 ∙ r.1,
      ap (λ b. cond b [] (u ∷ before c xs)) p.0 ∙ ap (λ z. u ∷ z) r.2,
    )

apart_last : (us : List ℕ) (c : ℕ) → IsDistinct (us ++ c ∷ []) → holds us c ≡ false
apart_last us c d =
    false_from_ne_true (holds us c) (λ h. both_ways (holds (c ∷ []) c) ((distinct-parts us (c ∷ []) d).2 c h)
    (holds-here c []))

parts : (X Y : List ℕ) (b c : ℕ) → IsDistinct (X ++ Y) → Spans X b c →
    (until c (X ++ Y) ≡ X) × (beyond c (X ++ Y) ≡ Y)
parts X Y b c d s =
    let r = split_last X b c s in
    let whole : X ++ Y ≡ r.0 ++ c ∷ Y = ap (λ z. z ++ Y) r.1 ∙ append_assoc r.0 (c ∷ []) Y in
    let k = cut_at r.0 c Y (apart_last r.0 c (subst IsDistinct r.1 (distinct-parts X Y d).0)) in
    (ap (until c) whole ∙ k.0 ∙ sym r.1, ap (beyond c) whole ∙ k.1)

begun_parts : (f g C X : List ℕ) (b : ℕ) → IsDistinct C → C ≡ f ++ g → b ∷ X ≡ g ++ f → begun_at b C ≡ b ∷ X
begun_parts f [] C X b dis h k =
    let e : C ≡ b ∷ X = h ∙ append-nil f ∙ sym k in
    let r = cut_at [] b X refl in
    ap (begun_at b) e ∙ ap (λ z. (b ∷ z) ++ before b (b ∷ X)) r.1 ∙ ap (λ z. (b ∷ X) ++ z) r.2 ∙ append-nil (b ∷ X)
begun_parts f (v ∷ g) C X b dis h k =
    let eb : v ≡ b = cc in
    let ex : X ≡ g ++ f = cc in
    let e : C ≡ f ++ b ∷ g = h ∙ ap (λ z. f ++ z ∷ g) eb in
    let apart = (distinct-parts f (b ∷ g) (subst IsDistinct e dis)).2 in
    let free : holds f b ≡ false =
    false_from_ne_true (holds f b) (λ i. both_ways (holds (b ∷ g) b) (apart b i) (holds-here b g)) in
    let r = cut_at f b g free in
    ap (begun_at b) e ∙ ap (λ z. (b ∷ z) ++ before b (f ++ b ∷ g)) r.1 ∙ ap (λ z. (b ∷ g) ++ z) r.2
    ∙ ap (λ z. b ∷ z) (sym ex)

begun : (C X : List ℕ) (b : ℕ) → IsDistinct C → IsRotation C (b ∷ X) → begun_at b C ≡ b ∷ X
begun C X b dis r = begun_parts r.front r.back C X b dis r.before r.after

seen_from : (C X : List ℕ) (a b : ℕ) → IsDistinct C → 3 ≤ length (b ∷ X) → Spans (b ∷ X) b a →
    IsRotation C (b ∷ X) ⊎ IsRotation (reverse C) (b ∷ X) → seen a b C ≡ b ∷ X
seen_from C X a b dis big s (inl r) =
    ap (λ t. cond t (begun_at b C) (begun_at b (reverse C)))
    (eq-eqb (next_city C a) b (next_of C (b ∷ X) b a r s dis)) ∙ begun C X b dis r
seen_from C X a b dis big s (inr r) =
    let back : IsRotation C (reverse (b ∷ X)) =
    subst (λ z. IsRotation z (reverse (b ∷ X))) (reverse-reverse C) (rotation-reverse (reverse C) (b ∷ X) r) in
    let ne : next_city C a ≡ b → ⊥ =
    not_next C (reverse (b ∷ X)) a b back dis (Spans-reverse (b ∷ X) b a s) (omega (arith, big, length-reverse (b ∷ X)))
    in
    ap (λ t. cond t (begun_at b C) (begun_at b (reverse C))) (ne_eqb (next_city C a) b ne)
    ∙ begun (reverse C) X b (distinct-reverse C dis) r

seen_is : (C R : List ℕ) (a b : ℕ) → IsDistinct C → 3 ≤ length R → Spans R b a →
    IsRotation C R ⊎ IsRotation (reverse C) R → seen a b C ≡ R
seen_is C [] a b dis big s r = absurd s
seen_is C (z ∷ X) a b dis big s r =
    subst (λ v. seen a v C ≡ z ∷ X) s.0 (seen_from C X a z dis big (refl, s.1) r)

-- a cycle as a rotation of the one direction or of the other
directed : (C X : List ℕ) → SameCycle C X → IsRotation C X ⊎ IsRotation (reverse C) X
directed C X (inl r) = inl r
directed C X (inr r) = inr (turned_back C X r)

either_distinct : (C R : List ℕ) → IsDistinct C → IsRotation C R ⊎ IsRotation (reverse C) R →
    IsDistinct R × (length R ≡ length C)
either_distinct C R dis (inl r) = (distinct-rotation C R r dis, length-rotation C R r)
either_distinct C R dis (inr r) = (
  distinct-rotation (reverse C) R r (distinct-reverse C dis),
  length-rotation (reverse C) R r ∙ length-reverse C,
)

turn : (C A B : List ℕ) → IsRotation C (A ++ B) ⊎ IsRotation (reverse C) (A ++ B) →
    IsRotation C (B ++ A) ⊎ IsRotation (reverse C) (B ++ A)
turn C A B (inl r) = inl (rotation-trans C (A ++ B) (B ++ A) r (turned A B))
turn C A B (inr r) = inr (rotation-trans (reverse C) (A ++ B) (B ++ A) r (turned A B))

-- what begins a path is not followed by what stands before it
not_beyond : (X Y : List ℕ) (y w a : ℕ) → IsDistinct (X ++ Y) → Spans Y y a → holds X w ≡ true →
    holds (beyond y (X ++ Y)) w ≡ false
not_beyond X [] y w a d s h = absurd s
not_beyond X (z ∷ Y) y w a d s h =
    subst (λ v. holds (beyond v (X ++ z ∷ Y)) w ≡ false) s.0
    (let apart = (distinct-parts X (z ∷ Y) d).2 in
    let free : holds X z ≡ false =
    false_from_ne_true (holds X z) (λ i. both_ways (holds (z ∷ Y) z) (apart z i) (holds-here z Y)) in
    ap (λ v. holds v w) (cut_at X z Y free).1 ∙ (or_parts (eqb z w) (holds Y w) (apart w h)).1)

module _ (C : List ℕ) (dis : IsDistinct C) (big : 3 ≤ length C) where
  -- the segment and the others, as they are cut from the ring
  cut_or : (a x e b y w c d : ℕ) (p : Parts 3 C a x e b c d) →
      (after C (Or a x e b y w) ≡ moved_between y w p.segment (p.ahead ++ p.rest)) × IsDistinct (p.ahead ++ p.rest)
  cut_or a x e b y w c d p =
      let S = p.segment in
      let P = p.ahead ++ p.rest in
      let assoc : S ++ p.ahead ++ p.rest ≡ S ++ P = append_assoc S p.ahead p.rest in
      let cycle : SameCycle C (S ++ P) = cycle-same C (S ++ p.ahead ++ p.rest) (S ++ P) assoc p.cycle in
      let r = directed C (S ++ P) cycle in
      let q = either_distinct C (S ++ P) dis r in
      let others : Spans P b a = Spans-append p.ahead p.rest b c d a p.is_ahead p.is_rest in
      let s : seen a x C ≡ S ++ P =
      seen_is C (S ++ P) a x dis (omega (arith, big, q.1)) (Spans-append S P x e b a p.is_segment others) r in
      let k = parts S P x e q.0 p.is_segment in (
        ap (λ z. moved_between y w (until e z) (beyond e z)) s
            ∙ ap (λ z. moved_between y w z (beyond e (S ++ P))) k.0 ∙ ap (moved_between y w S) k.1,
        (distinct-parts S P q.0).1,
      )

  pub two_is : (a b c d : ℕ) (h : Halves C a b c d) → after C (Two a b c d) ≡ h.kept ++ reverse h.turned
  two_is a b c d h =
      let R : List ℕ = h.turned ++ h.kept in
      let r = turn C h.kept h.turned (directed C (h.kept ++ h.turned) h.cycle) in
      let q = either_distinct C R dis r in
      let e : seen a b C ≡ R =
      seen_is C R a b dis (omega (arith, big, q.1))
      (Spans-append h.turned h.kept b c d a h.is_turned h.is_kept) r in
      let p = parts h.turned h.kept b c q.0 h.is_turned in
      ap (after_two c) e ∙ ap (λ z. z ++ reverse (until c R)) p.1 ∙ ap (λ z. h.kept ++ reverse z) p.0

  pub straight : (a x e b y w : ℕ) (p : Parts 3 C a x e b y w) →
      after C (Or a x e b y w) ≡ p.ahead ++ p.segment ++ p.rest
  straight a x e b y w p =
      let k = cut_or a x e b y w y w p in
      let q = parts p.ahead p.rest b y k.1 p.is_ahead in
      k.0 ∙ ap (λ t. cond t (until y (p.ahead ++ p.rest) ++ p.segment ++ beyond y (p.ahead ++ p.rest))
      (until w (p.ahead ++ p.rest) ++ reverse p.segment ++ beyond w (p.ahead ++ p.rest)))
      (ap (λ z. holds z w) q.1 ∙ holds-first p.rest w a p.is_rest)
      ∙ ap (λ z. z ++ p.segment ++ beyond y (p.ahead ++ p.rest)) q.0 ∙ ap (λ z. p.ahead ++ p.segment ++ z) q.1

  pub other : (a x e b y w : ℕ) (p : Parts 3 C a x e b w y) →
      after C (Or a x e b y w) ≡ p.ahead ++ reverse p.segment ++ p.rest
  other a x e b y w p =
      let k = cut_or a x e b y w w y p in
      let q = parts p.ahead p.rest b w k.1 p.is_ahead in
      k.0 ∙ ap (λ t. cond t (until y (p.ahead ++ p.rest) ++ p.segment ++ beyond y (p.ahead ++ p.rest))
      (until w (p.ahead ++ p.rest) ++ reverse p.segment ++ beyond w (p.ahead ++ p.rest)))
      (not_beyond p.ahead p.rest y w a k.1 p.is_rest (holds-last p.ahead b w p.is_ahead))
      ∙ ap (λ z. z ++ reverse p.segment ++ beyond w (p.ahead ++ p.rest)) q.0
      ∙ ap (λ z. p.ahead ++ reverse p.segment ++ z) q.1

module _ (C D : List ℕ) (dis : IsDistinct C) (big : 3 ≤ length C) where
  made_after : (o : Offer) → Made 3 o C D → SameCycle D (after C o)
  made_after (Two a b c d) (h, k) =
      cycle-same D (h.kept ++ reverse h.turned) (after C (Two a b c d)) (sym (two_is C dis big a b c d h)) k
  made_after (Or a x e b y w) (inl (p, k)) =
      cycle-same D (p.ahead ++ p.segment ++ p.rest) (after C (Or a x e b y w))
      (sym (straight C dis big a x e b y w p)) k
  made_after (Or a x e b y w) (inr (p, k)) =
      cycle-same D (p.ahead ++ reverse p.segment ++ p.rest) (after C (Or a x e b y w))
      (sym (other C dis big a x e b y w p)) k

  pub after_is : (o : Offer) → Makes 3 o C D → SameCycle D (after C o)
  after_is o h = made_after o (made_of 3 o C D h)

-- the direction in which a cut ring is seen
module _ (C R : List ℕ) (a b : ℕ) (dis : IsDistinct C) (big : 3 ≤ length C) (s : Spans R b a) where
  ahead_of : IsRotation C R → next_city C a ≡ b
  ahead_of r = next_of C R b a r s dis

  behind_of : IsRotation (reverse C) R → next_city C a ≡ b → ⊥
  behind_of r =
      let back : IsRotation C (reverse R) =
      subst (λ z. IsRotation z (reverse R)) (reverse-reverse C) (rotation-reverse (reverse C) R r) in
      not_next C (reverse R) a b back dis (Spans-reverse R b a s)
      (omega (arith, big, length-reverse R, length-rotation (reverse C) R r, length-reverse C))

  pub way_of : SameCycle C R → IsRotation (cond (eqb (next_city C a) b) C (reverse C)) R
  way_of same =
      elim (directed C R same) [
        | inl r ↦ subst (λ t. IsRotation (cond t C (reverse C)) R) (sym (eq-eqb (next_city C a) b (ahead_of r))) r
        | inr r ↦ subst (λ t. IsRotation (cond t C (reverse C)) R) (sym (ne_eqb (next_city C a) b (behind_of r))) r
      ]

  pub forward_of : SameCycle C R → next_city C a ≡ b → IsRotation C R
  forward_of same n = elim (directed C R same) [ inl r ↦ r | inr r ↦ absurd (behind_of r n) ]
