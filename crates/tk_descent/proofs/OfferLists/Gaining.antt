-- An Or-opt offer with positive gain, by its margin.
use Rattle.std.proofs.Common.{◌≡◌, ℕ, ◌+◌, ◌≤◌, Bool, true, false, cond, ltb, [], ◌∷◌, Some, sym, ◌∙◌, ap, arith}
use Rattle.std.proofs.Common.{subst, ◌*◌, ℤ, pos, ◌-ℤ◌, FitsSigned, w64, to_z, of_z}
use Rattle.std.specs.Prelude.{◌<ℤ◌}
use Rattle.std.proofs.lemmas.Bool.{or_from}
use Rattle.std.proofs.lemmas.Int.{ints}
use Rattle.tk_problem.specs.declared.limits.TheConstants.{DISTANCE_LIMIT}
use Rattle.tk_tour.specs.Counters.{saturated}
use Rattle.tk_descent.specs.Offers.{Searched, covers, or_offer, gain, improves}
use Rattle.tk_descent.specs.Sharing.{or_margin}
use Rattle.tk_descent.specs.declared.offer.Offer.{Offer}
use Rattle.tk_descent.specs.declared.offer.Offer.TheVariants.{Or}
use Rattle.tk_descent.specs.declared.offer.Segment.{Segment}
use Rattle.tk_descent.specs.declared.offer.Found.{Found}
use Rattle.tk_descent.proofs.OfferLists.OneByOne.{taken, does_both}
use Rattle.tk_descent.proofs.OfferLists.Searching.{on_list}

less : (k r a : ℕ) → pos k <ℤ (pos r -ℤ pos a) → ltb (a + k) r ≡ true
less k r a h = grind (arith, ints)

left_over : (m v : ℤ) (k r a : ℕ) → m ≡ pos r -ℤ pos a → v ≡ pos k → k ≤ DISTANCE_LIMIT → r ≤ 3 * DISTANCE_LIMIT →
    a ≤ 2 * DISTANCE_LIMIT →
    to_z w64 (of_z w64 (to_z w64 (of_z w64 m) -ℤ to_z w64 (of_z w64 v))) ≡ pos r -ℤ pos (a + k)
left_over m v k r a h j lk lr la = omega (arith, ints)

-- the distance of a new edge, subtracted from the distances of two old edges minus one that is new
pub difference_fits : (m v : ℤ) (p q r k : ℕ) → m ≡ pos (p + q) -ℤ pos r → v ≡ pos k →
    p ≤ DISTANCE_LIMIT → q ≤ DISTANCE_LIMIT → r ≤ DISTANCE_LIMIT → k ≤ DISTANCE_LIMIT →
    FitsSigned w64 (to_z w64 (of_z w64 m) -ℤ to_z w64 (of_z w64 v))
difference_fits m v p q r k is far lp lq lr lk = omega (arith, ints)

pub or_found : (d : ℕ → ℕ → ℕ) (may : Offer → Bool) (x y w : ℕ) (s : Segment) (o : Offer) (margin v : ℤ) (t u : ℕ) →
    ((a b : ℕ) → d a b ≤ DISTANCE_LIMIT) → covers x s y ≡ false → covers x s w ≡ false →
    o ≡ Or s.before x s.last s.after y w → may o ≡ true → margin ≡ or_margin d x y s w → v ≡ pos (d s.last w) →
    pos (d s.last w) <ℤ margin → u ≡ saturated (t + 1) →
    Searched d may (or_offer x y s w)
    (Some (record {
      offer = o;
      gain = to_z w64 (of_z w64 (to_z w64 (of_z w64 margin) -ℤ to_z w64 (of_z w64 v)));
    })) t u
or_found d may x y w s o margin v t u limit cy cw same may_be is far near count =
    let p : Offer = Or s.before x s.last s.after y w in
    let f : Found = record {
      offer = o;
      gain = to_z w64 (of_z w64 (to_z w64 (of_z w64 margin) -ℤ to_z w64 (of_z w64 v)));
    } in
    let r : ℕ = d s.before x + d s.last s.after + d y w in
    let a : ℕ = d s.before s.after + d x y in
    let does : improves d o ≡ true =
    subst (λ z. improves d z ≡ true) (sym same) (less (d s.last w) r a (subst (λ z. pos (d s.last w) <ℤ z) is near)) in
    let worth : f.gain ≡ gain d o =
    left_over margin v (d s.last w) r a is far (limit s.last w)
    (omega (arith, limit s.before x, limit s.last s.after, limit y w))
    (omega (arith, limit s.before s.after, limit x y)) ∙ ap (gain d) (sym same) in
    let list : o ∷ [] ≡ or_offer x y s w =
    ap (λ z. z ∷ []) same
    ∙ sym (ap (λ b. cond b [] (p ∷ [])) (or_from (covers x s y) (covers x s w) cy cw)) in
    on_list d (o ∷ []) (or_offer x y s w) (Some f) t u list (taken d f t u (does_both d may o does may_be) worth count)
