-- A tour contains the numbers 1 to n and no others, each at one position.
use Rattle.std.proofs.Common.{◌≡◌, ◌≢◌, ℕ, ◌+◌, ◌-◌, ◌<◌, ◌≤◌, ◌%◌, ◌*◌, suc, zero, ◌⊎◌, ⊎_elim, inl, inr, List, []}
use Rattle.std.proofs.Common.{◌∷◌, ◌++◌, length, take, drop, refl, sym, ap, ◌∙◌, arith, eqb, cond, get_or, zero-add}
use Rattle.std.proofs.lemmas.List.{take-append-drop, length-take, get_or-take, drop_more}
use Rattle.std.proofs.lemmas.List.Sums.{sum_by-cons, position_or_len_is}
use Rattle.std.proofs.lemmas.Bool.{eq-eqb, cases_eq, cases_lt}
use Rattle.std.proofs.lemmas.Bool.Decides.{eqb_tells}
use Rattle.std.proofs.Math.Nat.{mod-lt, mod-eq_of_lt, mod_self, add-mul-mod_self_left}
use Rattle.tk_tour.specs.Reversal.{IsInverse}
use Rattle.tk_distance.specs.Cities.{IsCity}
use Rattle.tk_tour.specs.Tour.{IsTour, IsSizedTour, occurrences, place_of, next_city, prev_city}
use Rattle.tk_tour.proofs.DistinctCycles.{HoldsOnce, occurrences-append, occurrences-cons, occurrences-at}

pub occurrences-other : (c x : ℕ) (xs : List ℕ) → c ≢ x → occurrences c (x ∷ xs) ≡ occurrences c xs
unfolding occurrences
occurrences-other c x xs ne =
    ⊎_elim (λ h. absurd (ne (sym h.1))) (λ h. sum_by-cons (λ y. cond (eqb y c) 1 0) x xs
    ∙ ap (λ b. cond b 1 0 + occurrences c xs) h.0 ∙ zero-add (occurrences c xs)) (eqb_tells x c)

pub occurrences-nil : (c : ℕ) → occurrences c [] ≡ 0
unfolding occurrences
occurrences-nil c = refl

pub occurrences-same : (c x : ℕ) (xs : List ℕ) → c ≡ x → occurrences c (x ∷ xs) ≡ 1 + occurrences c xs
occurrences-same c x xs e = ap (λ v. occurrences c (v ∷ xs)) (sym e) ∙ occurrences-cons c xs

-- the number of entries from 1 to m
entries_to : ℕ → List ℕ → ℕ
entries_to zero xs = 0
entries_to (suc m) xs = entries_to m xs + occurrences (suc m) xs

entries_to-nil : (m : ℕ) → entries_to m [] ≡ 0
unfolding entries_to
entries_to-nil zero = refl
entries_to-nil (suc m) = omega (arith, entries_to-nil m, occurrences-nil (suc m))

entries_to-outside : (m x : ℕ) (xs : List ℕ) → (0 < x → m < x) → entries_to m (x ∷ xs) ≡ entries_to m xs
unfolding entries_to
entries_to-outside zero x xs out = refl
entries_to-outside (suc m) x xs out =
    omega (
      arith,
      entries_to-outside m x xs (λ h. omega (arith, out h)),
      occurrences-other (suc m) x xs (λ e. absurd (omega (arith, out (omega arith)))),
    )

entries_to-inside : (m x : ℕ) (xs : List ℕ) → 0 < x → x ≤ m → entries_to m (x ∷ xs) ≡ entries_to m xs + 1
unfolding entries_to
entries_to-inside zero x xs low high = absurd (omega arith)
entries_to-inside (suc m) x xs low high =
    ⊎_elim
    (λ e.
    let k = occurrences-same (suc m) x xs e in
    omega (arith, k, entries_to-outside m x xs (λ h. omega arith)))
    (λ ne. omega (arith, occurrences-other (suc m) x xs ne, entries_to-inside m x xs low (omega (arith, ne))))
    (cases_eq (suc m) x)

pub inside_or_not : (m x : ℕ) → ((0 < x) × (x ≤ m)) ⊎ (0 < x → m < x)
inside_or_not m x =
    ⊎_elim
    (λ out. inr (λ _. out))
    (λ le. ⊎_elim (λ low. inl (low, le)) (λ none. inr (λ h. absurd (omega arith))) (cases_lt 0 x))
    (cases_lt m x)

entries_and_one_more : (m c : ℕ) → (0 < c → m < c) → (xs : List ℕ) → entries_to m xs + occurrences c xs ≤ length xs
entries_and_one_more m c out [] = omega (arith, entries_to-nil m, occurrences-nil c)
entries_and_one_more m c out (x ∷ xs) =
    let ih = entries_and_one_more m c out xs in
    ⊎_elim
    (λ e.
    let k = occurrences-same c x xs e in
    omega (arith, k, ih, entries_to-outside m x xs (λ h. omega (arith, out (omega arith)))))
    (λ ne.
    let k = occurrences-other c x xs ne in
    ⊎_elim (λ h. omega (arith, k, ih, entries_to-inside m x xs h.0 h.1))
    (λ h. omega (arith, k, ih, entries_to-outside m x xs h)) (inside_or_not m x))
    (cases_eq c x)

entries_to-tour : (n m : ℕ) (xs : List ℕ) → IsTour n xs → m ≤ n → entries_to m xs ≡ m
unfolding entries_to
entries_to-tour n zero xs h le = refl
entries_to-tour n (suc m) xs h le =
    omega (arith, entries_to-tour n m xs h (omega arith), h.1 (suc m) (omega arith) le)

pub occurrences-outside : (n c : ℕ) (xs : List ℕ) → IsTour n xs → (0 < c → n < c) → occurrences c xs ≡ 0
occurrences-outside n c xs h out =
    omega (arith, entries_and_one_more n c out xs, entries_to-tour n n xs h (omega arith), h.0)

pub HoldsOnce-tour : (n : ℕ) (xs : List ℕ) → IsTour n xs → HoldsOnce xs
HoldsOnce-tour n xs h = λ c.
    ⊎_elim (λ k. omega (arith, h.1 c k.0 k.1)) (λ k. omega (arith, occurrences-outside n c xs h k)) (inside_or_not n c)

pub occurrences-index : (xs : List ℕ) (k : ℕ) → k < length xs → 1 ≤ occurrences (get_or xs k 0) xs
occurrences-index [] k lt = absurd (omega arith)
occurrences-index (x ∷ xs) zero lt = omega (arith, occurrences-cons x xs)
occurrences-index (x ∷ xs) (suc k) lt =
    let c : ℕ = get_or xs k 0 in
    let ih : 1 ≤ occurrences c xs = occurrences-index xs k (omega arith) in
    omega (arith, ih, occurrences-append c (x ∷ []) xs)

pub city_in_range : (n : ℕ) (xs : List ℕ) (k : ℕ) → IsTour n xs → k < length xs →
    (0 < get_or xs k 0) × (get_or xs k 0 ≤ n)
city_in_range n xs k h lt =
    ⊎_elim (λ r. r)
    (λ r. absurd (omega (arith, occurrences-index xs k lt, occurrences-outside n (get_or xs k 0) xs h r)))
    (inside_or_not n (get_or xs k 0))

-- different positions contain different cities
pub places_differ : (xs : List ℕ) (i j : ℕ) → HoldsOnce xs → i < j → j < length xs → get_or xs i 0 ≢ get_or xs j 0
places_differ xs i j once lt le e =
    let c : ℕ = get_or xs j 0 in
    let lt' : i < length (take j xs) = simp length-take (omega arith) in
    let one : 1 ≤ occurrences (get_or (take j xs) i 0) (take j xs) = occurrences-index (take j xs) i lt' in
    let same : get_or (take j xs) i 0 ≡ c = get_or-take j xs i 0 lt ∙ e in
    let one' : 1 ≤ occurrences c (take j xs) = rw same at one in
    let whole : xs ≡ take j xs ++ (c ∷ drop (j + 1) xs) = sym (take-append-drop j xs)
    ∙ ap (λ v. take j xs ++ v) (drop_more xs j 0 le) in
    let k : occurrences c xs ≡ occurrences c (take j xs ++ (c ∷ drop (j + 1) xs)) = ap (occurrences c) whole in
    omega (arith, once c, k, one', occurrences-at c (take j xs) (drop (j + 1) xs))

pub place_of-get_or : (xs : List ℕ) (k : ℕ) → HoldsOnce xs → k < length xs → place_of (get_or xs k 0) xs ≡ k
unfolding place_of
place_of-get_or xs k once lt =
    position_or_len_is (λ x. eqb x (get_or xs k 0)) xs k 0 (omega arith)
    (λ j h. ⊎_elim (λ t. absurd (places_differ xs j k once h lt t.1)) (λ t. t.0)
    (eqb_tells (get_or xs j 0) (get_or xs k 0)))
    (λ _. eq-eqb _ _ refl)

-- a city that occurs has a position
pub place_found : (c : ℕ) (xs : List ℕ) → 1 ≤ occurrences c xs → (j : ℕ) × (j < length xs) × (get_or xs j 0 ≡ c)
place_found c [] h = absurd (omega (arith, h, occurrences-nil c))
place_found c (x ∷ xs) h =
    ⊎_elim
    (λ (e : c ≡ x). (0, omega arith, sym e))
    (λ (ne : c ≢ x).
    let k = place_found c xs (omega (arith, h, occurrences-other c x xs ne)) in
    (suc k.0, omega (arith, k.1), k.2))
    (cases_eq c x)

-- each city is at its position
pub city_at_place : (order place : List ℕ) (c : ℕ) → IsTour (length order) order → IsInverse order place → 0 < c →
    c ≤ length order →
    (get_or place (c - 1) 0 < length order) × (get_or order (get_or place (c - 1) 0) 0 ≡ c)
city_at_place order place c tour inverse low high =
    let f = place_found c order (omega (arith, tour.1 c low high)) in
    let e : get_or place (c - 1) 0 ≡ f.0 = ap (λ v. get_or place (v - 1) 0) (sym f.2) ∙ (inverse.1 f.0 f.1).2 in
    (omega (arith, e, f.1), ap (λ v. get_or order v 0) e ∙ f.2)

-- the cities after and before a city are cities of the tour
pub next_city-city : (xs : List ℕ) (c : ℕ) → IsSizedTour xs → IsCity (length xs) (next_city xs c)
unfolding next_city
next_city-city xs c tour =
    city_in_range (length xs) xs ((place_of c xs + 1) % length xs) tour.2 (mod-lt _ (omega (arith, tour.0)))

pub prev_city-city : (xs : List ℕ) (c : ℕ) → IsSizedTour xs → IsCity (length xs) (prev_city xs c)
unfolding prev_city
prev_city-city xs c tour =
    city_in_range (length xs) xs ((place_of c xs + length xs - 1) % length xs) tour.2
    (mod-lt _ (omega (arith, tour.0)))

pub next_city-inside : (xs : List ℕ) (k : ℕ) → HoldsOnce xs → k + 1 < length xs →
    next_city xs (get_or xs k 0) ≡ get_or xs (k + 1) 0
unfolding next_city
next_city-inside xs k once lt =
    ap (λ v. get_or xs ((v + 1) % length xs) 0) (place_of-get_or xs k once (omega arith))
    ∙ ap (λ v. get_or xs v 0) (mod-eq_of_lt lt)

pub next_city-end : (xs : List ℕ) (k : ℕ) → HoldsOnce xs → k + 1 ≡ length xs →
    next_city xs (get_or xs k 0) ≡ get_or xs 0 0
unfolding next_city
next_city-end xs k once e =
    ap (λ v. get_or xs ((v + 1) % length xs) 0) (place_of-get_or xs k once (omega arith))
    ∙ ap (λ v. get_or xs (v % length xs) 0) e ∙ ap (λ v. get_or xs v 0) (mod_self (length xs))

pub prev_city-inside : (xs : List ℕ) (k : ℕ) → HoldsOnce xs → k + 1 < length xs →
    prev_city xs (get_or xs (k + 1) 0) ≡ get_or xs k 0
unfolding prev_city
prev_city-inside xs k once lt =
    let e : k + 1 + length xs - 1 ≡ k + length xs * 1 = omega arith in
    ap (λ v. get_or xs ((v + length xs - 1) % length xs) 0) (place_of-get_or xs (k + 1) once lt)
    ∙ ap (λ v. get_or xs (v % length xs) 0) e
    ∙ ap (λ v. get_or xs v 0) (add-mul-mod_self_left k (length xs) 1 ∙ mod-eq_of_lt (omega arith))

pub prev_city-start : (xs : List ℕ) (k : ℕ) → HoldsOnce xs → k + 1 ≡ length xs →
    prev_city xs (get_or xs 0 0) ≡ get_or xs k 0
unfolding prev_city
prev_city-start xs k once e =
    let f : 0 + length xs - 1 ≡ k = omega arith in
    ap (λ v. get_or xs ((v + length xs - 1) % length xs) 0) (place_of-get_or xs 0 once (omega arith))
    ∙ ap (λ v. get_or xs (v % length xs) 0) f ∙ ap (λ v. get_or xs v 0) (mod-eq_of_lt (omega arith))

-- the converse: distinct entries from 1 to n are a tour
pub HoldsOnce-from_distinct : (xs : List ℕ) →
    ((i j : ℕ) → i < j → j < length xs → get_or xs i 0 ≢ get_or xs j 0) → HoldsOnce xs
HoldsOnce-from_distinct [] h = λ c. omega (arith, occurrences-nil c)
HoldsOnce-from_distinct (x ∷ xs) h = λ c.
    let ih = HoldsOnce-from_distinct xs (λ i j lt le. h (suc i) (suc j) (omega arith) (omega arith)) c in
    ⊎_elim
    (λ (e : c ≡ x).
    ⊎_elim
    (λ (some : 0 < occurrences c xs).
    let k = place_found c xs (omega arith) in
    absurd (h 0 (suc k.0) (omega arith) (omega (arith, k.1)) (sym e ∙ sym k.2)))
    (λ (none : occurrences c xs ≤ 0). omega (arith, none, occurrences-same c x xs e))
    (cases_lt 0 (occurrences c xs)))
    (λ (ne : c ≢ x). omega (arith, ih, occurrences-other c x xs ne))
    (cases_eq c x)

entries_to-all : (n : ℕ) (xs : List ℕ) → ((k : ℕ) → k < length xs → (0 < get_or xs k 0) × (get_or xs k 0 ≤ n)) →
    entries_to n xs ≡ length xs
entries_to-all n [] h = entries_to-nil n
entries_to-all n (x ∷ xs) h =
    let r = h 0 (omega arith) in
    let ih = entries_to-all n xs (λ k lt. h (suc k) (omega arith)) in
    omega (arith, ih, entries_to-inside n x xs r.0 r.1)

entries_to-le : (m : ℕ) (xs : List ℕ) → HoldsOnce xs → entries_to m xs ≤ m
unfolding entries_to
entries_to-le zero xs once = omega arith
entries_to-le (suc m) xs once = omega (arith, entries_to-le m xs once, once (suc m))

entries_to-full : (m c : ℕ) (xs : List ℕ) → HoldsOnce xs → entries_to m xs ≡ m → 0 < c → c ≤ m → occurrences c xs ≡ 1
unfolding entries_to
entries_to-full zero c xs once e low high = absurd (omega arith)
entries_to-full (suc m) c xs once e low high =
    let b = entries_to-le m xs once in
    let o = once (suc m) in
    let f : entries_to m xs ≡ m = omega (arith, e, b, o) in
    let k : occurrences (suc m) xs ≡ 1 = omega (arith, e, b, o) in
    ⊎_elim
    (λ (same : c ≡ suc m). ap (λ v. occurrences v xs) same ∙ k)
    (λ (ne : c ≢ suc m). entries_to-full m c xs once f low (omega (arith, ne)))
    (cases_eq c (suc m))

pub IsTour-from_distinct : (xs : List ℕ) →
    ((k : ℕ) → k < length xs → (0 < get_or xs k 0) × (get_or xs k 0 ≤ length xs)) →
    ((i j : ℕ) → i < j → j < length xs → get_or xs i 0 ≢ get_or xs j 0) → IsTour (length xs) xs
IsTour-from_distinct xs r d =
    let once = HoldsOnce-from_distinct xs d in
    (refl, λ c low high. entries_to-full (length xs) c xs once (entries_to-all (length xs) xs r) low high)

pub IsTour-from_inverse : (order place : List ℕ) → IsInverse order place → IsTour (length order) order
IsTour-from_inverse order place h =
    IsTour-from_distinct order (λ k lt. let r = h.1 k lt in (r.0, r.1))
    (λ i j lt le e.
    let a = (h.1 i (omega arith)).2 in
    let b = (h.1 j le).2 in
    let same : i ≡ j = sym a ∙ ap (λ v. get_or place (v - 1) 0) e ∙ b in
    omega (arith, same))

-- a list that contains no city twice, all of them from 1 to n, has at most n entries
pub length-distinct : (n : ℕ) (xs : List ℕ) → ((k : ℕ) → k < length xs → (0 < get_or xs k 0) × (get_or xs k 0 ≤ n)) →
    HoldsOnce xs → length xs ≤ n
length-distinct n xs r once = omega (arith, entries_to-all n xs r, entries_to-le n xs once)

entries_to-least : (m : ℕ) (xs : List ℕ) → ((c : ℕ) → 0 < c → c ≤ m → 1 ≤ occurrences c xs) → m ≤ entries_to m xs
unfolding entries_to
entries_to-least zero xs h = omega arith
entries_to-least (suc m) xs h =
    omega (arith, entries_to-least m xs (λ c low high. h c low (omega arith)), h (suc m) (omega arith) (omega arith))

-- and a list of entries from 1 to n that contains all of these has at least n
pub length-whole : (n : ℕ) (xs : List ℕ) → ((k : ℕ) → k < length xs → (0 < get_or xs k 0) × (get_or xs k 0 ≤ n)) →
    ((c : ℕ) → 0 < c → c ≤ n → 1 ≤ occurrences c xs) → n ≤ length xs
length-whole n xs r h = omega (arith, entries_to-all n xs r, entries_to-least n xs h)
