-- The queue after several cities were woken.
use Rattle.std.proofs.Common.{◌≡◌, ℕ, zero, suc, ◌+◌, ◌<◌, ◌≤◌, ◌⊎◌, true, false, ◌||◌, eqb, List, [], ◌∷◌, ◌++◌}
use Rattle.std.proofs.Common.{length, get_or, take, refl, sym, ◌∙◌, ap, arith, inl, inr, subst, length-append, add-one}
use Rattle.std.proofs.lemmas.List.{take_more}
use Rattle.std.proofs.lemmas.Bool.{or_cases, or_left, or_right, eqb-true, eq-eqb, cases_eq, both_ways, cond-false}
use Rattle.std.proofs.lemmas.Bool.{false_from_ne_true}
use Rattle.tk_descent.specs.Awake.{woken, woken_each, one_to}
use Rattle.tk_distance.specs.Holding.{holds}
use Rattle.tk_descent.proofs.Lists.{holds-push}

woken_each-append : (xs ys W : List ℕ) → woken_each W (xs ++ ys) ≡ woken_each (woken_each W xs) ys
woken_each-append [] ys W = refl
woken_each-append (c ∷ xs) ys W = woken_each-append xs ys (woken W c)

pub wake_next : (W : List ℕ) (k : ℕ) → woken (woken_each W (one_to k)) (k + 1) ≡ woken_each W (one_to (k + 1))
wake_next W k = subst (λ z. woken (woken_each W (one_to k)) z ≡ woken_each W (one_to z)) (sym (add-one k))
    (sym (woken_each-append (one_to k) (suc k ∷ []) W))

pub wake_more : (W cs : List ℕ) (k c : ℕ) → k < length cs →
    woken (woken_each W (take k cs)) (get_or cs k c) ≡ woken_each W (take (k + 1) cs)
wake_more W cs k c h =
    sym (ap (woken_each W) (take_more cs k c h) ∙ woken_each-append (take k cs) (get_or cs k c ∷ []) W)

pub one_to-length : (n : ℕ) → length (one_to n) ≡ n
one_to-length zero = refl
one_to-length (suc n) = omega (arith, length-append (one_to n) (suc n ∷ []), one_to-length n)

one_to-le : (n c : ℕ) → holds (one_to n) c ≡ true → c ≤ n
one_to-le zero c h = absurd (both_ways false refl h)
one_to-le (suc n) c h =
    elim (or_cases (holds (one_to n) c) (eqb (suc n) c) (sym (holds-push (one_to n) (suc n) c) ∙ h)) [
      | inl e ↦ let k : c ≤ n = one_to-le n c e in omega arith
      | inr e ↦ let k : suc n ≡ c = eqb-true (suc n) c e in omega arith
    ]

one_more_holds : (n c : ℕ) → (c ≤ n → holds (one_to n) c ≡ true) → c ≤ suc n → (suc n ≡ c) ⊎ (suc n ≡ c → ⊥) →
    (holds (one_to n) c || eqb (suc n) c) ≡ true
one_more_holds n c h k (inl e) = or_right (holds (one_to n) c) (eqb (suc n) c) (eq-eqb (suc n) c e)
one_more_holds n c h k (inr ne) = or_left (holds (one_to n) c) (eqb (suc n) c) (h (omega (arith, ne)))

pub one_to-holds : (n c : ℕ) → 1 ≤ c → c ≤ n → holds (one_to n) c ≡ true
one_to-holds zero c h k = absurd (omega arith)
one_to-holds (suc n) c h k = holds-push (one_to n) (suc n) c
    ∙ one_more_holds n c (λ l. one_to-holds n c h l) k (cases_eq (suc n) c)

-- waking all cities if none is awake
pub woken_all : (n : ℕ) → woken_each [] (one_to n) ≡ one_to n
woken_all zero = refl
woken_all (suc n) =
    woken_each-append (one_to n) (suc n ∷ []) [] ∙ ap (λ z. woken z (suc n)) (woken_all n) ∙
    cond-false (holds (one_to n) (suc n)) (one_to n) (one_to n ++ suc n ∷ [])
    (false_from_ne_true (holds (one_to n) (suc n))
    (λ e. let k : suc n ≤ n = one_to-le n (suc n) e in absurd (omega arith)))
