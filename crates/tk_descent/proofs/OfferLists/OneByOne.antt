-- A search that tests the offers of a list one after another.
use Rattle.std.proofs.Common.{◌≡◌, ℕ, ◌+◌, ◌<◌, Bool, true, false, cond, ◌&&◌, refl, List, [], ◌∷◌, ◌++◌, length}
use Rattle.std.proofs.Common.{get_or, take}
use Rattle.std.proofs.Common.{drop, Some, None, sym, ◌∙◌, ap, arith, take-append-drop, ltb, ℤ, pos, ◌-ℤ◌, FitsSigned}
use Rattle.std.proofs.Common.{w64, to_z, of_z}
use Rattle.std.specs.Int.Signed.{lt_z}
use Rattle.std.proofs.lemmas.Int.{ints, to_z-of_z}
use Rattle.std.proofs.lemmas.List.{take_more}
use Rattle.tk_tour.specs.Counters.{saturated}
use Rattle.tk_descent.specs.Offers.{Searched, is_taken, improves, removed, added, gain}
use Rattle.tk_descent.specs.declared.offer.Offer.{Offer}
use Rattle.tk_descent.specs.declared.offer.Found.{Found}
use Rattle.tk_descent.proofs.OfferLists.Searching.{Searched-on, Searched-stop, on_list}

-- whether a gain is positive, as the code tests it
positive : (r a : ℕ) → lt_z (pos 0) (pos r -ℤ pos a) ≡ ltb a r
positive r a = grind (arith, ints)

pub tested_improves : (d : ℕ → ℕ → ℕ) (o : Offer) (v : ℤ) (b : Bool) → FitsSigned w64 v → v ≡ gain d o →
    lt_z (pos 0) (to_z w64 (of_z w64 v)) ≡ b → improves d o ≡ b
tested_improves d o v b fits worth test = sym (positive (removed d o) (added d o))
    ∙ ap (λ z. lt_z (pos 0) z) (sym (to_z-of_z w64 v fits ∙ worth)) ∙ test

-- an offer without positive gain, or one that is not allowed
and-false : (b : Bool) → (b && false) ≡ false
and-false true = refl
and-false false = refl

module _ (d : ℕ → ℕ → ℕ) (may : Offer → Bool) (o : Offer) where
  pub no_gain : improves d o ≡ false → is_taken d may o ≡ false
  no_gain e = ap (λ z. may o && z) e ∙ and-false (may o)

  pub not_allowed : may o ≡ false → is_taken d may o ≡ false
  not_allowed e = ap (λ z. z && improves d o) e

  pub does_both : improves d o ≡ true → may o ≡ true → is_taken d may o ≡ true
  does_both e h = ap (λ z. z && improves d o) h ∙ e

-- the search of a list of one offer
passed : {may : Offer → Bool} (d : ℕ → ℕ → ℕ) (o : Offer) (t u : ℕ) → is_taken d may o ≡ false → u ≡ saturated (t + 1) →
    Searched d may (o ∷ []) None t u
passed d o t u not count = record {
  found = ap (λ b. cond b (Some o) None) (sym not);
  worth = tt;
  tests = count ∙ ap (λ b. saturated (t + cond b 1 1)) (sym not);
}

pub taken : {may : Offer → Bool} (d : ℕ → ℕ → ℕ) (f : Found) (t u : ℕ) → is_taken d may f.offer ≡ true →
    f.gain ≡ gain d f.offer → u ≡ saturated (t + 1) → Searched d may (f.offer ∷ []) (Some f) t u
taken d f t u does worth count = record {
  found = ap (λ b. cond b (Some f.offer) None) (sym does);
  worth = worth;
  tests = count ∙ ap (λ b. saturated (t + cond b 1 1)) (sym does);
}

module _ {may : Offer → Bool} (d e : ℕ → ℕ → ℕ) (os : List Offer) (i : ℕ) (z : Offer) (at : i < length os) (t u v : ℕ)
    (before : Searched d may (take i os) None t u) (count : v ≡ saturated (u + 1)) (g : ℤ) (fits : FitsSigned w64 g)
    (same : e ≡ d) (at_loop : g ≡ gain e (get_or os i z)) where
  pub worth : g ≡ gain d (get_or os i z)
  worth = at_loop ∙ ap (λ y. gain y (get_or os i z)) same

  pub gains_by : (b : Bool) → lt_z (pos 0) (to_z w64 (of_z w64 g)) ≡ b → improves d (get_or os i z) ≡ b
  gains_by b test = tested_improves d (get_or os i z) g b fits worth test

  -- the offer at i has no positive gain, or is not allowed
  pub Searched-passed : is_taken d may (get_or os i z) ≡ false → Searched d may (take (i + 1) os) None t v
  Searched-passed test =
      rw (take_more os i z at)
      (Searched-on d (take i os) (get_or os i z ∷ []) None t u v before
      (passed d (get_or os i z) u v test count))

  whole : (take i os ++ get_or os i z ∷ []) ++ drop (i + 1) os ≡ os
  whole = ap (λ y. y ++ drop (i + 1) os) (sym (take_more os i z at)) ∙ take-append-drop (i + 1) os

  -- the offer at i is the first with positive gain that is allowed
  pub Searched-taken : is_taken d may (get_or os i z) ≡ true →
      Searched d may os (Some (record { offer = get_or os i z; gain = to_z w64 (of_z w64 g) })) t v
  Searched-taken test =
      let f : Found = record { offer = get_or os i z; gain = to_z w64 (of_z w64 g) } in
      on_list d _ os (Some f) t v whole
      (Searched-stop d (take i os ++ get_or os i z ∷ []) (drop (i + 1) os) f t v
      (Searched-on d (take i os) (get_or os i z ∷ []) (Some f) t u v before
      (taken d f u v test (to_z-of_z w64 g fits ∙ worth) count)))

  pub Searched-not_worth : lt_z (pos 0) (to_z w64 (of_z w64 g)) ≡ false → Searched d may (take (i + 1) os) None t v
  Searched-not_worth test = Searched-passed (no_gain d may (get_or os i z) (gains_by false test))

  pub Searched-not_allowed : may (get_or os i z) ≡ false → Searched d may (take (i + 1) os) None t v
  Searched-not_allowed not = Searched-passed (not_allowed d may (get_or os i z) not)

  pub Searched-allowed : lt_z (pos 0) (to_z w64 (of_z w64 g)) ≡ true → may (get_or os i z) ≡ true →
      Searched d may os (Some (record { offer = get_or os i z; gain = to_z w64 (of_z w64 g) })) t v
  Searched-allowed test may_be = Searched-taken (does_both d may (get_or os i z) (gains_by true test) may_be)
