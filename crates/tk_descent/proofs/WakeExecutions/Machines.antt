-- A run of a descent is a run of the wake machine.
use Rattle.std.proofs.Common.{◌≡◌, ℕ, ◌<◌, ◌≤◌, ◌≢◌, ◌⊎◌, Bool, true, false, cond, ◌||◌, ◌&&◌, eqb, List, [], ◌∷◌, ◌++◌}
use Rattle.std.proofs.Common.{length, Option, Some, None, ◌↔◌, refl, sym, ◌∙◌, ap, arith, inl, inr, subst, flat_map}
use Rattle.std.proofs.Math.Bool.{or_assoc, or-false}
use Rattle.std.proofs.lemmas.Bool.{or_cases, or_left, or_right, eqb-true, eq-eqb, ne_eqb, both_ways, ltb-false}
use Rattle.std.proofs.lemmas.Bool.{cases_eq}
use Rattle.tk_tour.specs.Tour.{next_city, prev_city}
use Rattle.tk_descent.proofs.MovesOnTours.Cities.{distinct_made}
use Rattle.tk_descent.proofs.MovesOnTours.Paths.{IsTable}
use Rattle.tk_descent.specs.Offers.{offers_between, first_allowed, is_taken, improves, or_offer, or_offers, offers}
use Rattle.tk_descent.specs.Offers.{segments, removed, added, ends, everything, Makes}
use Rattle.tk_descent.specs.Awake.{woken, woken_each}
use Rattle.tk_distance.specs.Holding.{IsDistinct, holds}
use Rattle.tk_descent.specs.Machine.{ExecutionUnder, IsOfferOn}
use Rattle.tk_descent.specs.Machine.ExecutionUnder.{start, asleep, move}
use Rattle.tk_descent.specs.WakeMachine.{IsOfferOf, ImprovesUnder, HasNoOfferUnder, IsLocalOptimumUnder}
use Rattle.tk_descent.specs.WakeMachine.{WakesUnder, each_cycle}
use Rattle.tk_descent.specs.WakeMachine.WakesUnder.{start as begin, asleep as fall_asleep, move as go_on}
use Rattle.tk_descent.proofs.OfferLists.Listed.{IsListed}
use Rattle.tk_descent.specs.declared.offer.Segment.{Segment}
use Rattle.tk_descent.specs.declared.offer.Offer.{Offer}
use Rattle.tk_descent.proofs.Lists.{holds-here, holds-push, distinct-push}
use Rattle.tk_descent.proofs.MovesOnTours.GainLaw.{gain_law}
use Rattle.tk_descent.proofs.OfferLists.Count.{found_improves, found_allowed}
use Rattle.tk_descent.proofs.OfferLists.Complete.{complete}
use Rattle.tk_descent.proofs.OfferLists.OnCycle.{each-append, each_flat, found_has, each_or, more_made}
use Rattle.tk_descent.specs.Ruled.{Each}

-- a look that finds no offer

none_of : (b : Bool) (o : Offer) (r : Option Offer) → cond b (Some o) r ≡ None → (b ≡ false) × (r ≡ None)
none_of true o r h = cc
none_of false o r h = (refl, h)

unlisted : (d : ℕ → ℕ → ℕ) (may : Offer → Bool) (os : List Offer) (o : Offer) → first_allowed d may os ≡ None →
    IsListed os o → may o ≡ true → added d o < removed d o → ⊥
unlisted d may [] o e l a h = l
unlisted d may (p ∷ os) o e (inl same) a h =
    let q : (is_taken d may p ≡ false) × (first_allowed d may os ≡ None) =
    none_of (is_taken d may p) p (first_allowed d may os) e in
    let not : improves d o ≡ false =
    ap (λ z. z && improves d o) (sym a) ∙ subst (λ z. is_taken d may z ≡ false) same q.0 in
    omega (arith, h, ltb-false (added d o) (removed d o) not)
unlisted d may (p ∷ os) o e (inr l) a h =
    let q : (is_taken d may p ≡ false) × (first_allowed d may os ≡ None) =
    none_of (is_taken d may p) p (first_allowed d may os) e in
    unlisted d may os o q.1 l a h

-- on a cycle that fits, an offer is allowed exactly if the cycle after its move fits
abbrev pub IsRuleOn : (List ℕ → Type 0) → (List ℕ → Offer → Bool) → Type 0
IsRuleOn fits may =
    (o : Offer) (C D : List ℕ) → IsDistinct C → fits C → Makes 3 o C D → (may C o ≡ true) ↔ fits D

pub rules_nothing : IsRuleOn each_cycle everything
rules_nothing o C D dis fit made = (λ e. tt, λ e. refl)

pub none_improves : (fits : List ℕ → Type 0) (may : List ℕ → Offer → Bool) (d : ℕ → ℕ → ℕ) (near : ℕ → List ℕ)
    (m x : ℕ) (C : List ℕ) → IsRuleOn fits may → IsTable d → IsDistinct C → fits C → m ≤ 3 →
    first_allowed d (may C) (offers C m (near x) x) ≡ None → HasNoOfferUnder fits d near m x C
none_improves fits may d near m x C rule is dis fit small e =
    λ o D i. let p = complete C near m x dis small o D i.0 i.1 in
    let q = p.2 d is.0 in
    let a : may C p.0 ≡ true = (rule p.0 C D dis fit (more_made m p.0 C D small p.3)).1 i.3 in
    unlisted d (may C) (offers C m (near x) x) p.0 e p.1 a
    (omega (arith, q.0, q.1, gain_law d is.0 C D m o i.1, i.2))

-- the offer that a look at x finds is an offer of x

each_held : (F : Offer → Type 0) (f : ℕ → List Offer) (xs : List ℕ) → ((y : ℕ) → holds xs y ≡ true → Each F (f y)) →
    Each F (flat_map f xs)
each_held F f [] h = tt
each_held F f (y ∷ xs) h = each-append F (f y) (flat_map f xs) (h y (holds-here y xs))
    (each_held F f xs (λ z e. h z (or_right (eqb y z) (holds xs z) e)))

abbrev IsFrom : (ℕ → List ℕ) → ℕ → Offer → Type 0
IsFrom near x o = IsOfferOf near x o × (holds (ends o) x ≡ true)

from_or : (near : ℕ → List ℕ) (x y ay by : ℕ) → holds (near x) y ≡ true → (s : Segment) →
    Each (IsFrom near x) (or_offers x y ay by s)
from_or near x y ay by h s =
    let put : (w : ℕ) → Each (IsFrom near x) (or_offer x y s w) = λ w. each_or (IsFrom near x) x y s w
    (λ u v. (inl (refl, h), holds-here x (s.before ∷ s.last ∷ s.after ∷ y ∷ w ∷ []))) in
    each-append (IsFrom near x) (or_offer x y s ay) (or_offer x y s by) (put ay) (put by)

pub found_from : (d : ℕ → ℕ → ℕ) (may : Offer → Bool) (near : ℕ → List ℕ) (m x : ℕ) (C : List ℕ) (o : Offer) →
    first_allowed d may (offers C m (near x) x) ≡ Some o → IsOfferOf near x o × (holds (ends o) x ≡ true)
found_from d may near m x C o e =
    found_has (IsFrom near x) d may (offers C m (near x) x) o
    (each_held (IsFrom near x) (offers_between C m x) (near x) (λ y h. (
      (inl (refl, h), holds-here x (next_city C x ∷ y ∷ next_city C y ∷ [])),
      (
        (inl (refl, h), holds-here x (prev_city C x ∷ y ∷ prev_city C y ∷ [])),
        each_flat (IsFrom near x) (or_offers x y (next_city C y) (prev_city C y))
            (segments (next_city C) (prev_city C) (length C) m x)
            (λ k s l. from_or near x y (next_city C y) (prev_city C y) h _),
      ),
    ))) e

-- the queue

held_by : (b : Bool) (W : List ℕ) (c k : ℕ) → holds W c ≡ b → holds (cond b W (W ++ c ∷ [])) k ≡ (holds W k || eqb c k)
held_by true W c k h = both (cases_eq c k)
  where
    both : (c ≡ k) ⊎ (c ≡ k → ⊥) → holds W k ≡ (holds W k || eqb c k)
    both (inl e) = subst (λ z. holds W z ≡ true) e h ∙ sym (or_right (holds W k) (eqb c k) (eq-eqb c k e))
    both (inr ne) = sym (ap (λ z. holds W k || z) (ne_eqb c k ne) ∙ or-false (holds W k))
held_by false W c k h = holds-push W c k

pub holds-woken_each : (cs W : List ℕ) (k : ℕ) → holds (woken_each W cs) k ≡ (holds W k || holds cs k)
holds-woken_each [] W k = sym (or-false (holds W k))
holds-woken_each (c ∷ cs) W k = holds-woken_each cs (woken W c) k
    ∙ ap (λ z. z || holds cs k) (held_by (holds W c) W c k refl) ∙ or_assoc (holds W k) (eqb c k) (holds cs k)

distinct-woken : (b : Bool) (W : List ℕ) (c : ℕ) → holds W c ≡ b → IsDistinct W → IsDistinct (cond b W (W ++ c ∷ []))
distinct-woken true W c h k = k
distinct-woken false W c h k = distinct-push W c k h

pub distinct-woken_each : (cs W : List ℕ) → IsDistinct W → IsDistinct (woken_each W cs)
distinct-woken_each [] W h = h
distinct-woken_each (c ∷ cs) W h = distinct-woken_each cs (woken W c) (distinct-woken (holds W c) W c refl h)

module _ (V : List ℕ) (x : ℕ) (dis : IsDistinct (x ∷ V)) where
  stays : (c : ℕ) → holds V c ≡ true → (holds (x ∷ V) c ≡ true) × (c ≢ x)
  stays c h = (or_right (eqb x c) (holds V c) h, λ e. both_ways (holds V x) dis.0 (subst (λ z. holds V z ≡ true) e h))

  stays_back : (c : ℕ) → (holds (x ∷ V) c ≡ true) × (c ≢ x) → holds V c ≡ true
  stays_back c (h, ne) =
      elim (or_cases (eqb x c) (holds V c) h) [ inl e ↦ absurd (ne (sym (eqb-true x c e))) | inr e ↦ e ]

  module _ (es : List ℕ) (in' : holds es x ≡ true) where
    joins : (c : ℕ) → holds (woken_each V es) c ≡ true → (holds (x ∷ V) c ≡ true) ⊎ (holds es c ≡ true)
    joins c h =
        elim (or_cases (holds V c) (holds es c) (sym (holds-woken_each es V c) ∙ h)) [
          | inl e ↦ inl
              (or_right (eqb x c) (holds V c) e)
          | inr e ↦ inr e
        ]

    joins_back : (c : ℕ) → (holds (x ∷ V) c ≡ true) ⊎ (holds es c ≡ true) → holds (woken_each V es) c ≡ true
    joins_back c (inl h) =
        holds-woken_each es V c ∙
        elim (or_cases (eqb x c) (holds V c) h) [
          | inl e ↦ or_right (holds V c) (holds es c)
              (subst (λ z. holds es z ≡ true) (eqb-true x c e) in')
          | inr e ↦ or_left (holds V c) (holds es c) e
        ]
    joins_back c (inr h) = holds-woken_each es V c ∙ or_right (holds V c) (holds es c) h

module _ (fits : List ℕ → Type 0) (may : List ℕ → Offer → Bool) (d : ℕ → ℕ → ℕ) (near : ℕ → List ℕ) (m : ℕ)
    (T W : List ℕ) (rule : IsRuleOn fits may) (is : IsTable d) (small : m ≤ 3) (tour : IsDistinct T) (fit : fits T)
    (once : IsDistinct W) where
  run_wakes_all : {C V : List ℕ} {looks moves tests : ℕ} → ExecutionUnder may d near m T W C V looks moves tests →
      WakesUnder fits d near m T W C V × IsDistinct C × IsDistinct V × fits C
  run_wakes_all start = (begin, tour, once, fit)
  run_wakes_all (asleep {C = C} {V = V} {x = x} r e) =
      let i = run_wakes_all r in (
        fall_asleep x i.0 (holds-here x V) (none_improves fits may d near m x C rule is i.1 i.3 small e)
            (λ c. (stays V x i.2 c, stays_back V x i.2 c)),
        i.1,
        i.2.1,
        i.3,
      )
  run_wakes_all (move {C = C} {V = V} {D = D} {x = x} {o = o} r e made) =
      let i = run_wakes_all r in
      let f = found_from d (may C) near m x C o e in
      let after : fits D =
      (rule o C D i.1 i.3 (more_made m o C D small made)).0 (found_allowed d (may C) (offers C m (near x) x) o e) in (
        go_on x o i.0 (holds-here x V) (
          f.0,
          made,
          omega (arith, gain_law d is.0 C D m o made, found_improves d (may C) (offers C m (near x) x) o e),
          after,
        )
            (λ c. (joins V x i.2 (ends o) f.1 c, joins_back V x i.2 (ends o) f.1 c)),
        distinct_made m o C D made i.1,
        distinct-woken_each (ends o) V i.2.1,
        after,
      )

  pub run_wakes : {C V : List ℕ} {looks moves tests : ℕ} → ExecutionUnder may d near m T W C V looks moves tests →
      WakesUnder fits d near m T W C V
  run_wakes r = (run_wakes_all r).0

  -- each cycle of a run fits
  pub run_fits : {C V : List ℕ} {looks moves tests : ℕ} → ExecutionUnder may d near m T W C V looks moves tests → fits C
  run_fits r = (run_wakes_all r).3

-- a run without a move does not change the cycle, and puts only cities without an offer to sleep
pub still : {may : List ℕ → Offer → Bool} (d : ℕ → ℕ → ℕ) (near : ℕ → List ℕ) (m : ℕ) (T W : List ℕ) {C V : List ℕ}
    {looks moves tests : ℕ} → ExecutionUnder may d near m T W C V looks moves tests → moves ≡ 0 →
    (C ≡ T)
    × ((c : ℕ) → holds W c ≡ true → (holds V c ≡ true) ⊎ (first_allowed d (may T) (offers T m (near c) c) ≡ None))
still d near m T W start z = (refl, λ c h. inl h)
still {may} d near m T W (asleep {C = C} {V = V} {x = x} r e) z =
    let i = still d near m T W r z in (
      i.0,
      λ c h. elim (i.1 c h) [
        | inl k ↦
            elim (or_cases (eqb x c) (holds V c) k) [
              | inl j ↦ inr
                  (subst (λ v. first_allowed d (may T) (offers T m (near v) v) ≡ None) (eqb-true x c j)
                  (subst (λ v. first_allowed d (may v) (offers v m (near x) x) ≡ None) i.0 e))
              | inr j ↦ inl j
            ]
        | inr k ↦ inr k
      ],
    )
still d near m T W (move r e made) z = absurd (omega arith)

module _ (fits : List ℕ → Type 0) (may : List ℕ → Offer → Bool) (rule : IsRuleOn fits may) where
  pub still_optimum : (d : ℕ → ℕ → ℕ) (near : ℕ → List ℕ) (m : ℕ) (T W C : List ℕ) (looks moves tests : ℕ) →
      IsTable d → m ≤ 3 → IsDistinct T → fits T → ((c : ℕ) → holds T c ≡ true → holds W c ≡ true) →
      ExecutionUnder may d near m T W C [] looks moves tests → moves ≡ 0 → IsLocalOptimumUnder fits d near m C
  still_optimum d near m T W C looks moves tests is small dis fit all r z =
      let i = still d near m T W r z in
      subst (λ v. IsLocalOptimumUnder fits d near m v) (sym i.0)
      (λ x h. elim (i.1 x (all x h)) [
        | inl k ↦ absurd (both_ways false refl k)
        | inr k ↦ none_improves fits may d near m x T rule is dis fit small k
      ])

  pub some_improves : (d : ℕ → ℕ → ℕ) (near : ℕ → List ℕ) (m x : ℕ) (C : List ℕ) (o : Offer) → IsTable d → m ≤ 3 →
      IsDistinct C → fits C → first_allowed d (may C) (offers C m (near x) x) ≡ Some o → IsOfferOn m o C →
      (D : List ℕ) × ImprovesUnder fits d near m x C o D
  some_improves d near m x C o is small dis fit e (D, made) = (
    D,
    (
      (found_from d (may C) near m x C o e).0,
      made,
      omega (arith, gain_law d is.0 C D m o made, found_improves d (may C) (offers C m (near x) x) o e),
      (rule o C D dis fit (more_made m o C D small made)).0 (found_allowed d (may C) (offers C m (near x) x) o e),
    ),
  )
