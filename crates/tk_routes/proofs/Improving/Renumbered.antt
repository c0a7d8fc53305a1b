-- Tours as permutations of 1 to n, and their lengths after the cities are renumbered.
use Rattle.std.proofs.Common.{◌≡◌, ◌≢◌, ℕ, zero, suc, ◌+◌, ◌-◌, ◌<◌, ◌≤◌, ⊎_elim, List, [], ◌∷◌, ◌++◌, length, take}
use Rattle.std.proofs.Common.{drop, get_or, refl, sym, ap, ◌∙◌, subst, arith, length-append}
use Rattle.std.specs.Prelude.{map, All}
use Rattle.std.specs.List.Sorted.{IsPermutation}
use Rattle.std.proofs.lemmas.Bool.{cases_eq}
use Rattle.std.proofs.lemmas.List.{map-append, take_more, take_all, length-take-le, length-drop, get_or_default}
use Rattle.std.proofs.lemmas.List.{nil_from_length}
use Rattle.std.proofs.lemmas.List.Sorted.{IsPermutation-refl, IsPermutation-sym, IsPermutation-map}
use Rattle.std.proofs.lemmas.List.Sorted.{IsPermutation-middle, IsPermutation-push_more}
use Rattle.tk_distance.specs.Cities.{IsCity, city_at}
use Rattle.tk_tour.specs.Tour.{IsTour, occurrences, walk, tour_length}
use Rattle.tk_tour.proofs.DistinctCycles.{occurrences-append}
use Rattle.tk_tour.proofs.Tours.{occurrences-nil, occurrences-other, place_found, city_in_range}
use Rattle.tk_descent.specs.Awake.{one_to}
use Rattle.tk_descent.proofs.WakeExecutions.WokenQueue.{one_to-length}
use Rattle.tk_routes.proofs.CutLists.{cut_at}
use Rattle.tk_routes.proofs.ServedCustomers.{occurrences-pass, occurrences-push}

-- the cities 1 to n as a tour
one_to-above : (n c : ℕ) → n < c → occurrences c (one_to n) ≡ 0
one_to-above zero c lt = occurrences-nil c
one_to-above (suc n) c lt =
    occurrences-pass c (suc n) (one_to n) (λ e. absurd (omega arith)) ∙ one_to-above n c (omega arith)

one_to-each : (n c : ℕ) → 0 < c → c ≤ n → occurrences c (one_to n) ≡ 1
one_to-each zero c low high = absurd (omega arith)
one_to-each (suc n) c low high =
    ⊎_elim
    (λ (e : c ≡ suc n). omega (arith, occurrences-push c (suc n) (one_to n) e, one_to-above n c (omega arith)))
    (λ (ne : c ≢ suc n).
    occurrences-pass c (suc n) (one_to n) ne ∙ one_to-each n c low (omega (arith, ne)))
    (cases_eq c (suc n))

pub IsTour-one_to : (n : ℕ) → IsTour n (one_to n)
IsTour-one_to n = (one_to-length n, one_to-each n)

pub All-one_to : (n : ℕ) (xs : List ℕ) → xs ≡ one_to n → All (IsCity n) xs
All-one_to n xs is k d lt =
    let tour : IsTour n xs = subst (λ (v : List ℕ). IsTour n v) (sym is) (IsTour-one_to n) in
    let at : get_or xs k d ≡ get_or xs k 0 = get_or_default xs k d 0 lt in
    let within = city_in_range n xs k tour lt in
    (omega (arith, at, within.0), omega (arith, at, within.1))

-- the entries of a list, position by position
map-city_at-to : (xs : List ℕ) (k : ℕ) → k ≤ length xs → map (city_at xs) (one_to k) ≡ take k xs
map-city_at-to xs zero le = refl
map-city_at-to xs (suc k) le =
    let one : suc k - 1 ≡ k = omega arith in
    let more : suc k ≡ k + 1 = omega arith in
    let at : get_or xs (suc k - 1) 0 ≡ get_or xs k 0 = ap (λ v. get_or xs v 0) one in
    let next : take (suc k) xs ≡ take (k + 1) xs = ap (λ v. take v xs) more in
    map-append (city_at xs) (one_to k) (suc k ∷ [])
    ∙ ap (λ v. v ++ get_or xs (suc k - 1) 0 ∷ []) (map-city_at-to xs k (omega arith))
    ∙ ap (λ v. take k xs ++ v ∷ []) at
    ∙ sym (take_more xs k 0 (omega arith)) ∙ sym next

pub map-city_at : (xs : List ℕ) (n : ℕ) → length xs ≡ n → map (city_at xs) (one_to n) ≡ xs
map-city_at xs n e = map-city_at-to xs n (omega arith) ∙ take_all n xs (omega arith)

-- each tour is a permutation of 1 to n
without_last : (n j : ℕ) (xs : List ℕ) → IsTour (suc n) xs → j < length xs → get_or xs j 0 ≡ suc n →
    IsTour n (take j xs ++ drop (j + 1) xs)
without_last n j xs tour lt at =
    let cut : xs ≡ take j xs ++ suc n ∷ drop (j + 1) xs = cut_at xs j 0 lt
    ∙ ap (λ v. take j xs ++ v ∷ drop (j + 1) xs) at in (
      omega (
        arith,
        length-append (take j xs) (drop (j + 1) xs),
        length-take-le j xs (omega arith),
        length-drop (j + 1) xs,
        tour.0,
      ),
      λ c low high.
          let once : occurrences c (take j xs ++ suc n ∷ drop (j + 1) xs) ≡ 1 = ap (occurrences c) (sym cut)
          ∙ tour.1 c low (omega arith) in
          omega (
            arith,
            once,
            occurrences-append c (take j xs) (suc n ∷ drop (j + 1) xs),
            occurrences-append c (take j xs) (drop (j + 1) xs),
            occurrences-other c (suc n) (drop (j + 1) xs) (λ e. absurd (omega arith)),
          ),
    )

pub IsPermutation-tour : (n : ℕ) (xs : List ℕ) → IsTour n xs → IsPermutation (one_to n) xs
IsPermutation-tour zero xs tour =
    subst (λ (v : List ℕ). IsPermutation [] v) (sym (nil_from_length xs tour.0)) (IsPermutation-refl [])
IsPermutation-tour (suc n) xs tour =
    let found = place_found (suc n) xs (omega (arith, tour.1 (suc n) (omega arith) (omega arith))) in
    let j : ℕ = found.0 in
    let cut : xs ≡ take j xs ++ suc n ∷ drop (j + 1) xs = cut_at xs j 0 found.1
    ∙ ap (λ v. take j xs ++ v ∷ drop (j + 1) xs) found.2 in
    let front = IsPermutation-sym _ _ (IsPermutation-middle (take j xs) (suc n) (drop (j + 1) xs)) in
    let rest = IsPermutation-tour n (take j xs ++ drop (j + 1) xs) (without_last n j xs tour found.1 found.2) in
    subst (λ (v : List ℕ). IsPermutation (one_to n ++ suc n ∷ []) v) (sym cut)
    (IsPermutation-push_more (one_to n) (take j xs ++ drop (j + 1) xs) _ (suc n) rest front)

-- a list in the order of a tour of its positions is a permutation of it
pub IsPermutation-places : (xs ps : List ℕ) → IsTour (length xs) ps → IsPermutation xs (map (city_at xs) ps)
IsPermutation-places xs ps tour =
    subst (λ (v : List ℕ). IsPermutation v (map (city_at xs) ps)) (map-city_at xs (length xs) refl)
    (IsPermutation-map (city_at xs) (one_to (length xs)) ps (IsPermutation-tour (length xs) ps tour))

-- the length after the cities are renumbered
walk-map : (d : ℕ → ℕ → ℕ) (f : ℕ → ℕ) (a : ℕ) (xs : List ℕ) →
    walk d (f a) (map f xs) ≡ walk (λ x y. d (f x) (f y)) a xs
walk-map d f a [] = refl
walk-map d f a (x ∷ xs) = ap (λ v. d (f a) (f x) + v) (walk-map d f x xs)

pub tour_length-map : (d : ℕ → ℕ → ℕ) (f : ℕ → ℕ) (xs : List ℕ) →
    tour_length d (map f xs) ≡ tour_length (λ x y. d (f x) (f y)) xs
tour_length-map d f [] = refl
tour_length-map d f (x ∷ xs) = ap (walk d (f x)) (sym (map-append f xs (x ∷ []))) ∙ walk-map d f x (xs ++ x ∷ [])
