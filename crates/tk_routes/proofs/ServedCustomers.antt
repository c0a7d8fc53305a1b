-- Customers that are served once, and their marks.
use Rattle.std.proofs.Common.{◌≡◌, ◌≢◌, ℕ, ◌+◌, ◌-◌, ◌<◌, ◌≤◌, ⊎_elim, Bool, true, false, List, [], ◌∷◌, ◌++◌, length}
use Rattle.std.proofs.Common.{get_or, replicate, set, sym, ap, ◌∙◌, subst, arith, ltb, get_or-set_other}
use Rattle.std.proofs.Common.{get_or-set_same}
use Rattle.std.specs.List.{concat}
use Rattle.std.proofs.lemmas.Bool.{ltb-true, ltb-false, lt-ltb, cases_eq}
use Rattle.std.proofs.lemmas.List.{get_or-replicate, length-replicate, length-set}
use Rattle.std.proofs.lemmas.List.Elements.{All-nil, All-push, All-get_or, All-same}
use Rattle.std.proofs.lemmas.List.Folds.{concat-append}
use Rattle.tk_distance.specs.Cities.{IsCity}
use Rattle.tk_tour.specs.Tour.{IsTour, occurrences}
use Rattle.tk_tour.proofs.DistinctCycles.{occurrences-append}
use Rattle.tk_tour.proofs.Tours.{occurrences-nil, occurrences-same, occurrences-other, length-distinct, length-whole}
use Rattle.tk_routes.specs.RouteVerdicts.{AreServedOnce}
use Rattle.tk_routes.specs.Serving.{AreServed}
use Rattle.tk_routes.proofs.CutLists.{All-front, All-back}

-- at the start, no customer is served
pub AreServed-none : (n : ℕ) → AreServed (replicate n false) []
AreServed-none n = record {
  once =
      record { known = All-nil (IsCity (length (replicate n false))); once = λ c. omega (arith, occurrences-nil c) };
  marks = λ c h.
      let lt : c - 1 < n = omega (arith, h.0, h.1, length-replicate n false) in
      get_or-replicate n (c - 1) false false lt ∙ ap (λ k. ltb 0 k) (sym (occurrences-nil c));
}

pub occurrences-push : (c x : ℕ) (xs : List ℕ) → c ≡ x → occurrences c (xs ++ x ∷ []) ≡ occurrences c xs + 1
occurrences-push c x xs e =
    omega (arith, occurrences-append c xs (x ∷ []), occurrences-same c x [] e, occurrences-nil c)

pub occurrences-pass : (c x : ℕ) (xs : List ℕ) → c ≢ x → occurrences c (xs ++ x ∷ []) ≡ occurrences c xs
occurrences-pass c x xs ne =
    omega (arith, occurrences-append c xs (x ∷ []), occurrences-other c x [] ne, occurrences-nil c)

-- a marked customer has been served, and below one without a mark has not
pub served_before : (served : List Bool) (xs : List ℕ) (x : ℕ) → AreServed served xs → IsCity (length served) x →
    get_or served (x - 1) false ≡ true → 1 ≤ occurrences x xs
served_before served xs x h city e = ltb-true 0 (occurrences x xs) (sym (h.marks x city) ∙ e)

pub unserved : (served : List Bool) (xs : List ℕ) (x : ℕ) → AreServed served xs → IsCity (length served) x →
    get_or served (x - 1) false ≡ false → occurrences x xs ≡ 0
unserved served xs x h city e = let none : occurrences x xs ≤ 0 =
    ltb-false 0 (occurrences x xs) (sym (h.marks x city) ∙ e) in omega arith

-- one more customer is served
pub AreServed-more : (served : List Bool) (xs : List ℕ) (x : ℕ) → AreServed served xs → IsCity (length served) x →
    get_or served (x - 1) false ≡ false →
    AreServed (set served (x - 1) true) (xs ++ x ∷ [])
AreServed-more served xs x h city e =
    let none = unserved served xs x h city e in
    let same : length (set served (x - 1) true) ≡ length served = length-set served (x - 1) true in
    record {
      once = subst (λ (m : ℕ). AreServedOnce m (xs ++ x ∷ [])) (sym same) (record {
        known = All-push (IsCity (length served)) xs x h.once.known city;
        once =
            λ c. ⊎_elim
            (λ is. omega (arith, ap (λ v. occurrences v xs) is ∙ none, occurrences-push c x xs is))
            (λ ne. omega (arith, occurrences-pass c x xs ne, h.once.once c)) (cases_eq c x);
      });
      marks = λ c known.
          let inside : IsCity (length served) c = subst (λ (m : ℕ). IsCity m c) same known in
          ⊎_elim
          (λ is.
          let at_x : get_or (set served (x - 1) true) (c - 1) false ≡ true =
          ap (λ v. get_or (set served (x - 1) true) (v - 1) false) is
          ∙ get_or-set_same served (x - 1) true false (omega (arith, city.0, city.1)) in
          let some : 0 < occurrences c (xs ++ x ∷ []) = omega (arith, occurrences-push c x xs is) in
          at_x ∙ sym (lt-ltb 0 (occurrences c (xs ++ x ∷ [])) some))
          (λ ne.
          let apart : c - 1 ≢ x - 1 = λ same_place. ne (omega (arith, same_place, inside.0, city.0)) in
          get_or-set_other served (x - 1) (c - 1) true false apart ∙ h.marks c inside
          ∙ ap (λ k. ltb 0 k) (sym (occurrences-pass c x xs ne)))
          (cases_eq c x);
    }

-- if each customer of some routes is served once in all, so is each of one of them
pub AreServedOnce-part : (m : ℕ) (before : List (List ℕ)) (route : List ℕ) (after : List (List ℕ)) →
    AreServedOnce m (concat (before ++ route ∷ after)) → AreServedOnce m route
AreServedOnce-part m before route after h =
    let e : concat (before ++ route ∷ after) ≡ concat before ++ (route ++ concat after) =
    concat-append before (route ∷ after) in
    record {
      known =
          All-front (IsCity m) route (concat after)
          (All-back (IsCity m) (concat before) (route ++ concat after) (All-same (IsCity m) _ _ (sym e) h.known));
      once = λ c. omega (
        arith,
        ap (occurrences c) e,
        h.once c,
        occurrences-append c (concat before) (route ++ concat after),
        occurrences-append c route (concat after),
      );
    }

-- there are at most m of them
pub AreServedOnce-short : (m : ℕ) (xs : List ℕ) → AreServedOnce m xs → length xs ≤ m
AreServedOnce-short m xs h = length-distinct m xs (λ k lt. All-get_or (IsCity m) xs k 0 lt h.known) h.once

-- if they include each of 1 to m, they are a tour
pub IsTour-served : (m : ℕ) (xs : List ℕ) → AreServedOnce m xs →
    ((c : ℕ) → 1 ≤ c → c ≤ m → 1 ≤ occurrences c xs) → IsTour m xs
IsTour-served m xs h all = (
  omega (arith, AreServedOnce-short m xs h, length-whole m xs (λ k lt. All-get_or (IsCity m) xs k 0 lt h.known) all),
  λ c low high. omega (arith, h.once c, all c low high),
)
