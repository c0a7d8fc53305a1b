-- The first fault among the customers of a solution.
use Rattle.std.proofs.Common.{◌≡◌, ℕ, ◌+◌, ◌-◌, ◌<◌, ◌≤◌, Bool, true, false, List, [], ◌∷◌, ◌++◌, length, take, drop}
use Rattle.std.proofs.Common.{get_or, set, refl, sym, ap, ◌∙◌, subst, append_assoc}
use Rattle.std.specs.Prelude.{map}
use Rattle.std.specs.List.{concat}
use Rattle.std.proofs.lemmas.List.{take_more, take_all}
use Rattle.tk_distance.specs.Cities.{IsCity}
use Rattle.tk_routes.specs.RouteVerdicts.{AreServedOnce, IsCustomerFault, StandsAt}
use Rattle.tk_routes.specs.Serving.{AreServed}
use Rattle.tk_routes.specs.declared.checking.verdict.RouteVerdict.{RouteVerdict}
use Rattle.tk_routes.specs.declared.checking.verdict.RouteVerdict.TheVariants.{BadCustomer, ServedTwice}
use Rattle.tk_routes.proofs.CutLists.{cut_at, cut_map, concat-take_more}
use Rattle.tk_routes.proofs.ServedCustomers.{AreServed-more, served_before}

-- the k-th customer of a route comes after those of the routes before and the first k of its own, counted from 0
module _ (m : ℕ) (served : List Bool) (before after : List (List ℕ)) (number : ℕ) (route : List ℕ) (k : ℕ)
    (is : number ≡ length before + 1) (lt : k < length route) (size : length served ≡ m)
    (h : AreServed served (concat before ++ take k route)) where
  stands_at : StandsAt (before ++ route ∷ after) number (get_or route k 0) (concat before ++ take k route)
  stands_at = record {
    before = before;
    front = take k route;
    back = drop (k + 1) route;
    after = after;
    text = ap (λ v. before ++ v ∷ after) (cut_at route k 0 lt);
    number = is;
    earlier_is = refl;
  }

  served_so_far : AreServedOnce m (concat before ++ take k route)
  served_so_far = subst (λ (n : ℕ). AreServedOnce n (concat before ++ take k route)) size h.once

  pub bad_customer : (IsCity m (get_or route k 0) → ⊥) →
      IsCustomerFault m (before ++ route ∷ after) (BadCustomer number (get_or route k 0))
  bad_customer bad = (concat before ++ take k route, (stands_at, served_so_far, bad))

  pub twice_served : IsCity (length served) (get_or route k 0) → get_or served (get_or route k 0 - 1) false ≡ true →
      IsCustomerFault m (before ++ route ∷ after) (ServedTwice (get_or route k 0))
  twice_served city e = (
    number,
    (
      concat before ++ take k route,
      (stands_at, served_so_far, served_before served _ (get_or route k 0) h city e),
    ),
  )

-- one more customer of a route is marked as served
pub served_on : (served : List Bool) (earlier route : List ℕ) (k : ℕ) → k < length route →
    AreServed served (earlier ++ take k route) → IsCity (length served) (get_or route k 0) →
    get_or served (get_or route k 0 - 1) false ≡ false →
    AreServed (set served (get_or route k 0 - 1) true) (earlier ++ take (k + 1) route)
served_on served earlier route k lt h city e =
    let longer : (earlier ++ take k route) ++ get_or route k 0 ∷ [] ≡ earlier ++ take (k + 1) route =
    append_assoc earlier (take k route) (get_or route k 0 ∷ [])
    ∙ ap (λ v. earlier ++ v) (sym (take_more route k 0 lt)) in
    subst (λ (v : List ℕ). AreServed (set served (get_or route k 0 - 1) true) v) longer
    (AreServed-more served _ (get_or route k 0) h city e)

pub served_whole : (served : List Bool) (earlier route : List ℕ) (k : ℕ) → length route ≤ k →
    AreServed served (earlier ++ take k route) → AreServed served (earlier ++ route)
served_whole served earlier route k le h =
    subst (λ (v : List ℕ). AreServed served (earlier ++ v)) (take_all k route le) h

-- the k-th of the routes: a fault on it, and the marks after it
module _ {X : Type 0} (f : X → List ℕ) (xs : List X) (k : ℕ) (x : X) (route : List ℕ) (lt : k < length xs)
    (at : x ≡ get_or xs k x) (is : route ≡ f x) where
  pub fault_in : (m n : ℕ) (v : RouteVerdict) → n ≡ m →
      IsCustomerFault n (map f (take k xs) ++ route ∷ map f (drop (k + 1) xs)) v → IsCustomerFault m (map f xs) v
  fault_in m n v size h =
      let whole : map f (take k xs) ++ route ∷ map f (drop (k + 1) xs) ≡ map f xs =
      ap (λ (r : List ℕ). map f (take k xs) ++ r ∷ map f (drop (k + 1) xs)) is ∙ sym (cut_map f xs k x lt at) in
      subst (λ (j : ℕ). IsCustomerFault j (map f xs) v) size
      (subst (λ (routes : List (List ℕ)). IsCustomerFault n routes v) whole h)

  pub served_route : (served : List Bool) → AreServed served (concat (map f (take k xs)) ++ route) →
      AreServed served (concat (map f (take (k + 1) xs)))
  served_route served h =
      subst (λ (v : List ℕ). AreServed served v) (ap (λ v. concat (map f (take k xs)) ++ v) is
      ∙ sym (concat-take_more f xs k x lt at)) h
