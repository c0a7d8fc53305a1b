-- What distinct lists hold: how often a city stands in them, and the sum of their loads.
use Rattle.std.proofs.Common.{◌≡◌, ◌≢◌, ℕ, suc, zero, ◌+◌, ◌≤◌, ◌<◌, Bool, true, false, cond, ◌||◌, eqb, List, [], ◌∷◌}
use Rattle.std.proofs.Common.{length, get_or, refl, sym, ap, ◌∙◌, ◌↔◌, arith, ⊎_elim, subst}
use Rattle.std.specs.List.{flat_map, sum_by}
use Rattle.std.proofs.lemmas.Bool.{eqb-false, eq-eqb, ne_eqb, or_left, or_parts, false_from_ne_true, both_ways}
use Rattle.std.proofs.lemmas.Bool.{cases_eq, cond-true, cond-false}
use Rattle.std.proofs.lemmas.List.Sums.{sum_by-cons}
use Rattle.tk_distance.specs.Cities.{IsCity}
use Rattle.tk_tour.specs.Tour.{IsTour, occurrences}
use Rattle.tk_tour.proofs.Tours.{occurrences-other, occurrences-same, occurrences-nil}
use Rattle.tk_distance.specs.Holding.{holds, IsDistinct}
use Rattle.tk_starts.specs.Joints.{part, part_load, IsPartPath, ArePartPaths}
use Rattle.tk_starts.specs.declared.merges.pairs.Pair.{Pair}
use Rattle.tk_starts.proofs.Merging.Paths.PathLists.{holds-here, holds-later, holds-cases, holds-left, holds-right}
use Rattle.tk_starts.proofs.Merging.Paths.PathLists.{holds-append, IsDistinct-append}

-- ---- the sum of the loads of those of the cities 1 to n that a list holds

held : (ℕ → ℕ) → List ℕ → ℕ → ℕ
held load xs zero = 0
held load xs (suc n) = held load xs n + cond (holds xs (suc n)) (load (suc n)) 0

held-nil : (load : ℕ → ℕ) (n : ℕ) → held load [] n ≡ 0
unfolding held
held-nil load zero = refl
held-nil load (suc n) = let ih = held-nil load n in omega (arith, ih)

same_held : (x : ℕ) (xs : List ℕ) (c : ℕ) → x ≢ c → holds (x ∷ xs) c ≡ holds xs c
same_held x xs c ne = ap (λ (b : Bool). b || holds xs c) (ne_eqb x c ne)

held-below : (load : ℕ → ℕ) (x : ℕ) (xs : List ℕ) (n : ℕ) → n < x → held load (x ∷ xs) n ≡ held load xs n
unfolding held
held-below load x xs zero h = refl
held-below load x xs (suc n) h =
    let ih = held-below load x xs n (omega (arith, h)) in
    let ne : x ≢ suc n = λ e. omega (arith, h, e) in
    let e = ap (λ (b : Bool). cond b (load (suc n)) 0) (same_held x xs (suc n) ne) in
    omega (arith, ih, e)

held-cons : (load : ℕ → ℕ) (x : ℕ) (xs : List ℕ) (n : ℕ) → 1 ≤ x → x ≤ n → holds xs x ≡ false →
    held load (x ∷ xs) n ≡ load x + held load xs n
unfolding held
held-cons load x xs zero a b h = absurd (omega (arith, a, b))
held-cons load x xs (suc n) a b h =
    ⊎_elim
    (λ (e : x ≡ suc n).
    let low = held-below load x xs n (omega (arith, e)) in
    let here : cond (holds (x ∷ xs) (suc n)) (load (suc n)) 0 ≡ load (suc n) =
    cond-true _ (load (suc n)) 0 (or_left _ _ (eq-eqb x (suc n) e)) in
    let none : cond (holds xs (suc n)) (load (suc n)) 0 ≡ 0 =
    cond-false _ (load (suc n)) 0 (subst (λ (z : ℕ). holds xs z ≡ false) e h) in
    let l = ap load e in
    omega (arith, low, here, none, l))
    (λ (ne : x ≢ suc n).
    let ih = held-cons load x xs n a (omega (arith, b, ne)) h in
    let e = ap (λ (b : Bool). cond b (load (suc n)) 0) (same_held x xs (suc n) ne) in
    omega (arith, ih, e))
    (cases_eq x (suc n))

sum-held : (load : ℕ → ℕ) (n : ℕ) (xs : List ℕ) → IsDistinct xs → ((b : ℕ) → holds xs b ≡ true → IsCity n b) →
    sum_by load xs ≡ held load xs n
sum-held load n [] d inside = sym (held-nil load n)
sum-held load n (x ∷ xs) d inside =
    let ih = sum-held load n xs d.1 (λ b h. inside b (holds-later x b xs h)) in
    let r = inside x (holds-here x xs) in
    let e = held-cons load x xs n r.0 r.1 d.0 in
    let s = sum_by-cons load x xs in
    omega (arith, ih, e, s)

held-part : (load : ℕ → ℕ) (E : List Pair) (name : ℕ) (xs : List ℕ) (n : ℕ) →
    ((b : ℕ) → (holds xs b ≡ true) ↔ (part E b ≡ name)) → held load xs n ≡ part_load load E n name
unfolding held part_load
held-part load E name xs zero whole = refl
held-part load E name xs (suc n) whole =
    let ih = held-part load E name xs n whole in
    ⊎_elim
    (λ (h : part E (suc n) ≡ name).
    let a = cond-true (holds xs (suc n)) (load (suc n)) 0 ((whole (suc n)).1 h) in
    let b = cond-true (eqb (part E (suc n)) name) (load (suc n)) 0 (eq-eqb _ _ h) in
    omega (arith, ih, a, b))
    (λ (h : part E (suc n) ≢ name).
    let a = cond-false (holds xs (suc n)) (load (suc n)) 0 (false_from_ne_true _ (λ k. h ((whole (suc n)).0 k))) in
    let b = cond-false (eqb (part E (suc n)) name) (load (suc n)) 0 (ne_eqb _ _ h) in
    omega (arith, ih, a, b))
    (cases_eq (part E (suc n)) name)

-- the sum of the loads of a part that a list holds
pub sum-part : (load : ℕ → ℕ) (E : List Pair) (name n : ℕ) (xs : List ℕ) → IsDistinct xs →
    ((b : ℕ) → holds xs b ≡ true → IsCity n b) → ((b : ℕ) → (holds xs b ≡ true) ↔ (part E b ≡ name)) →
    sum_by load xs ≡ part_load load E n name
sum-part load E name n xs d inside whole = sum-held load n xs d inside ∙ held-part load E name xs n whole

held-all : (xs : List ℕ) (n : ℕ) → ((b : ℕ) → IsCity n b → holds xs b ≡ true) → held (λ _. 1) xs n ≡ n
unfolding held
held-all xs zero all = refl
held-all xs (suc n) all =
    let ih = held-all xs n (λ b r. all b (r.0, omega (arith, r.1))) in
    let e = cond-true {A = ℕ} (holds xs (suc n)) 1 0 (all (suc n) (omega arith, omega arith)) in
    omega (arith, ih, e)

sum-ones : (xs : List ℕ) → sum_by (λ _. 1) xs ≡ length xs
sum-ones [] = refl
sum-ones (x ∷ xs) = let ih = sum-ones xs in let s = sum_by-cons (λ (_ : ℕ). 1) x xs in omega (arith, ih, s)

-- ---- tours

occurrences-free : (c : ℕ) (xs : List ℕ) → holds xs c ≡ false → occurrences c xs ≡ 0
occurrences-free c [] h = occurrences-nil c
occurrences-free c (x ∷ xs) h =
    let k = or_parts _ _ h in
    occurrences-other c x xs (λ e. eqb-false x c k.0 (sym e)) ∙ occurrences-free c xs k.1

occurrences-held : (c : ℕ) (xs : List ℕ) → IsDistinct xs → holds xs c ≡ true → occurrences c xs ≡ 1
occurrences-held c [] d h = absurd (both_ways _ refl h)
occurrences-held c (x ∷ xs) d h =
    ⊎_elim
    (λ (e : x ≡ c).
    let none = occurrences-free c xs (subst (λ (z : ℕ). holds xs z ≡ false) e d.0) in
    let s = occurrences-same c x xs (sym e) in
    omega (arith, none, s))
    (λ (ne : x ≢ c). occurrences-other c x xs (λ e. ne (sym e))
    ∙ occurrences-held c xs d.1 (⊎_elim (λ e. absurd (ne e)) (λ k. k) (holds-cases x c xs h)))
    (cases_eq x c)

-- a list that holds each city once, and nothing else
pub IsTour-from_held : (n : ℕ) (xs : List ℕ) → IsDistinct xs →
    ((b : ℕ) → (holds xs b ≡ true) ↔ IsCity n b) → IsTour n xs
IsTour-from_held n xs d all = (
  sym (sum-ones xs) ∙ (sum-held (λ _. 1) n xs d (λ b h. (all b).0 h) ∙ held-all xs n (λ b r. (all b).1 r)),
  λ c low high. occurrences-held c xs d ((all c).1 (low, high)),
)

-- ---- lists put together

flat : List (List ℕ) → List ℕ
flat lists = flat_map (λ (x : List ℕ). x) lists

flat-holds : (lists : List (List ℕ)) (b : ℕ) → holds (flat lists) b ≡ true →
    (k : ℕ) × (k < length lists) × (holds (get_or lists k []) b ≡ true)
unfolding flat
flat-holds [] b h = absurd (both_ways _ refl h)
flat-holds (xs ∷ lists) b h =
    ⊎_elim (λ k. (0, omega arith, k)) (λ k. let f = flat-holds lists b k in (suc f.0, omega (arith, f.1), f.2))
    (holds-append xs (flat lists) b h)

holds-flat : (lists : List (List ℕ)) (k b : ℕ) → k < length lists → holds (get_or lists k []) b ≡ true →
    holds (flat lists) b ≡ true
unfolding flat
holds-flat [] k b l h = absurd (omega (arith, l))
holds-flat (xs ∷ lists) zero b l h = holds-left xs (flat lists) b h
holds-flat (xs ∷ lists) (suc k) b l h = holds-right xs (flat lists) b (holds-flat lists k b (omega (arith, l)) h)

abbrev AreApart : List (List ℕ) → Type 0
AreApart lists = (b k l : ℕ) → k < length lists → l < length lists → holds (get_or lists k []) b ≡ true →
    holds (get_or lists l []) b ≡ true → k ≡ l

flat-distinct : (lists : List (List ℕ)) → ((k : ℕ) → k < length lists → IsDistinct (get_or lists k [])) →
    AreApart lists → IsDistinct (flat lists)
unfolding flat
flat-distinct [] each once = tt
flat-distinct (xs ∷ lists) each once =
    IsDistinct-append xs (flat lists) (each 0 (omega arith))
    (flat-distinct lists (λ k l. each (suc k) (omega (arith, l)))
    (λ b k l hk hl mk ml. let e = once b (suc k) (suc l) (omega (arith, hk)) (omega (arith, hl)) mk ml in
    omega (arith, e)))
    (λ b p q. let f = flat-holds lists b q in let e = once b 0 (suc f.0) (omega arith) (omega (arith, f.1)) p f.2 in
    omega (arith, e))

path-distinct : (E : List Pair) (xs : List ℕ) → IsPartPath E xs → IsDistinct xs
unfolding IsPartPath
path-distinct E [] h = tt
path-distinct E (a ∷ xs) h = h.1

pub path-filled : (E : List Pair) (xs : List ℕ) → IsPartPath E xs → 1 ≤ length xs
unfolding IsPartPath
path-filled E [] h = absurd h
path-filled E (a ∷ xs) h = omega arith

path-sum : (load : ℕ → ℕ) (E : List Pair) (n : ℕ) (xs : List ℕ) → IsPartPath E xs →
    ((b : ℕ) → holds xs b ≡ true → IsCity n b) →
    (a : ℕ) × ((holds xs a ≡ true) × (sum_by load xs ≡ part_load load E n (part E a)))
unfolding IsPartPath
path-sum load E n [] h inside = absurd h
path-sum load E n (a ∷ xs) h inside = (a, (holds-here a xs, sum-part load E (part E a) n (a ∷ xs) h.1 inside h.3))

-- the hub and the lists of the parts are all cities
pub IsTour-from_parts : (n hub : ℕ) (E : List Pair) (lists : List (List ℕ)) → IsCity n hub →
    ArePartPaths n hub E lists → IsTour n (hub ∷ flat_map (λ (x : List ℕ). x) lists)
unfolding flat
IsTour-from_parts n hub E lists r p =
    let free : holds (flat lists) hub ≡ false =
    false_from_ne_true _ (λ h. ((p.cities hub).0 (flat-holds lists hub h)).1 refl) in
    let d = flat-distinct lists (λ k l. path-distinct E _ (p.paths k [] l)) p.once in
    IsTour-from_held n (hub ∷ flat lists) (free, d)
    (λ b. (
      λ h. ⊎_elim (λ (e : hub ≡ b). subst (λ (x : ℕ). IsCity n x) e r) (λ k. ((p.cities b).0 (flat-holds lists b k)).0)
          (holds-cases hub b (flat lists) h),
      λ q. ⊎_elim
          (λ (e : hub ≡ b). or_left _ _ (eq-eqb hub b e))
          (λ (ne : hub ≢ b). let f = (p.cities b).1 (q, λ e. ne (sym e)) in
          holds-later hub b (flat lists) (holds-flat lists f.0 b f.1 f.2))
          (cases_eq hub b),
    ))

-- the load of a list is that of its part, which is not that of the hub
pub load-of_list : (load : ℕ → ℕ) (n hub : ℕ) (E : List Pair) (lists : List (List ℕ)) → ArePartPaths n hub E lists →
    (k : ℕ) → k < length lists →
    (a : ℕ) × (IsCity n a × (a ≢ hub) × (sum_by load (get_or lists k []) ≡ part_load load E n (part E a)))
load-of_list load n hub E lists p k l =
    let s = path-sum load E n (get_or lists k []) (p.paths k [] l) (λ b h. ((p.cities b).0 (k, l, h)).0) in
    let c = (p.cities s.0).0 (k, l, s.1.0) in
    (s.0, (c.0, c.1, s.1.1))
