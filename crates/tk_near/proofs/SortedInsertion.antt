-- Insertion into a rising list.
use Rattle.std.proofs.Common.{◌≡◌, ◌≢◌, ℕ, zero, suc, ◌+◌, ◌-◌, ◌<◌, ◌≤◌, List, [], ◌∷◌, ◌++◌, length, take, drop, refl}
use Rattle.std.proofs.Common.{sym, ap, ◌∙◌, arith, true, false, cond, get_or}
use Rattle.std.specs.Prelude.{nat_lt, All, IsTrue, ◌↔◌, Bool}
use Rattle.std.proofs.lemmas.List.{take-take, take_all, take_more, take_at, length-take-le}
use Rattle.std.proofs.lemmas.List.Elements.{All-cons, All-head, All-tail, All-nil, All-weaker, All-take}
use Rattle.std.proofs.lemmas.List.Sorted.{IsPermutation-refl, IsPermutation-cons, IsPermutation-trans}
use Rattle.std.proofs.lemmas.List.Sorted.{IsPermutation-middle, All-permutation, length_permutation}
use Rattle.std.specs.List.Sorted.{IsPermutation}
use native.Mathlib.Numerals.{unary_clauses}
use Rattle.std.proofs.lemmas.Bool.Decides.{nat_tests}
use Rattle.tk_near.specs.Keeping.{Ordered, Rising, Climbing, insert_by}

-- x and the first of a list
pub insert_before : {X : Type 0} (f : X → ℕ) (x z : X) (zs : List X) → f x < f z → insert_by f x (z ∷ zs) ≡ x ∷ z ∷ zs
insert_before f x z zs l =
    let e : nat_lt (f x) (f z) ≡ true = grind (arith, nat_tests) in
    ap (λ v. cond v (x ∷ z ∷ zs) (z ∷ insert_by f x zs)) e

pub insert_after : {X : Type 0} (f : X → ℕ) (x z : X) (zs : List X) → f z ≤ f x →
    insert_by f x (z ∷ zs) ≡ z ∷ insert_by f x zs
insert_after f x z zs l =
    let e : nat_lt (f x) (f z) ≡ false = grind (arith, nat_tests) in
    ap (λ v. cond v (x ∷ z ∷ zs) (z ∷ insert_by f x zs)) e

-- the first k need no more than the first k
pub take-insert_by : {X : Type 0} (f : X → ℕ) (x : X) (k : ℕ) (xs : List X) →
    take k (insert_by f x (take k xs)) ≡ take k (insert_by f x xs)
take-insert_by f x zero xs = refl
take-insert_by f x (suc k) [] = refl
take-insert_by f x (suc k) (y ∷ ys) =
    elim (nat_lt (f x) (f y)) as (λ b. take (suc k) (cond b (x ∷ y ∷ take k ys) (y ∷ insert_by f x (take k ys))) ≡ take
    (suc k) (cond b (x ∷ y ∷ ys) (y ∷ insert_by f x ys))) [
      | true ↦ ap (λ v. x ∷ v) (take-take k (suc k) (y ∷ ys) (omega arith))
      | false ↦ ap (λ v. y ∷ v) (take-insert_by f x k ys)
    ]

pub IsPermutation-insert_by : {X : Type 0} (f : X → ℕ) (x : X) (xs : List X) → IsPermutation (x ∷ xs) (insert_by f x xs)
IsPermutation-insert_by f x [] = IsPermutation-refl (x ∷ [])
IsPermutation-insert_by f x (y ∷ ys) =
    elim (nat_lt (f x) (f y)) as (λ b. IsPermutation (x ∷ y ∷ ys) (cond b (x ∷ y ∷ ys) (y ∷ insert_by f x ys))) [
      | true ↦ IsPermutation-refl (x ∷ y ∷ ys)
      | false ↦ IsPermutation-trans _ (y ∷ x ∷ ys) _ (IsPermutation-middle (x ∷ []) y ys)
          (IsPermutation-cons y (x ∷ ys) _ (IsPermutation-insert_by f x ys))
    ]

-- x goes in before what it stands in R to, and after what stands in R to it
Ordered-insert_by : {X : Type 0} (R : X → X → Type 0) (f : X → ℕ) (x : X) (xs : List X) →
    ((y : X) → f x < f y → R x y) → ((y z : X) → f x < f y → R y z → R x z) → All (λ y. f y ≤ f x → R y x) xs →
    Ordered R xs → Ordered R (insert_by f x xs)
Ordered-insert_by R f x [] first onward behind h = (All-nil (R x), tt)
Ordered-insert_by R f x (y ∷ ys) first onward behind h =
    (elim (nat_lt (f x) (f y)) as (λ b. nat_lt (f x) (f y) ≡ b →
    Ordered R (cond b (x ∷ y ∷ ys) (y ∷ insert_by f x ys))) [
      | true ↦ λ e.
          let l : f x < f y = grind (arith, nat_tests) in
          (All-cons (R x) y ys (first y l) (All-weaker (R y) (R x) (λ z m. onward y z l m) ys h.0), h)
      | false ↦ λ e.
          let l : f y ≤ f x = grind (arith, nat_tests) in (
            All-permutation (R y) (x ∷ ys) (insert_by f x ys) (IsPermutation-insert_by f x ys)
                (All-cons (R y) x ys (All-head (λ z. f z ≤ f x → R z x) y ys behind l) h.0),
            Ordered-insert_by R f x ys first onward (All-tail (λ z. f z ≤ f x → R z x) y ys behind) h.1,
          )
    ]) refl

-- where x is apart from all
pub Rising-insert_by : {X : Type 0} (f : X → ℕ) (x : X) (xs : List X) → Rising f xs → All (λ y. f y ≢ f x) xs →
    Rising f (insert_by f x xs)
Rising-insert_by f x xs h a =
    Ordered-insert_by (λ y z. f y < f z) f x xs (λ y l. l) (λ y z l m. omega arith)
    (All-weaker (λ y. f y ≢ f x) (λ y. f y ≤ f x → f y < f x) (λ y ne le. omega arith) xs a) h

pub Climbing-insert_by : {X : Type 0} (f : X → ℕ) (x : X) (xs : List X) → Climbing f xs → Climbing f (insert_by f x xs)
Climbing-insert_by f x xs h =
    Ordered-insert_by (λ y z. f y ≤ f z) f x xs (λ y l. omega arith) (λ y z l m. omega arith) (λ k d l le. le) h

-- x goes after an element that is not greater
pub insert_by-below : {X : Type 0} (f : X → ℕ) (x : X) (i : ℕ) (xs : List X) (d : X) → Climbing f xs → i < length xs →
    f (get_or xs i d) ≤ f x → insert_by f x xs ≡ take (suc i) xs ++ insert_by f x (drop (suc i) xs)
insert_by-below f x i [] d h l b = absurd (omega arith)
insert_by-below f x zero (y ∷ ys) d h l b = insert_after f x y ys b
insert_by-below f x (suc i) (y ∷ ys) d h l b =
    let l' : i < length ys = omega arith in
    let n : f y ≤ f (get_or ys i d) = h.0 i d l' in
    insert_after f x y ys (omega arith) ∙ ap (λ v. y ∷ v) (insert_by-below f x i ys d h.1 l' b)

pub Climbing-take : {X : Type 0} (f : X → ℕ) (k : ℕ) (xs : List X) → Climbing f xs → Climbing f (take k xs)
Climbing-take f zero xs h = tt
Climbing-take f (suc k) [] h = tt
Climbing-take f (suc k) (y ∷ ys) h = (All-take (λ z. f y ≤ f z) k ys h.0, Climbing-take f k ys h.1)

pub length-insert_by : {X : Type 0} (f : X → ℕ) (x : X) (xs : List X) → length (insert_by f x xs) ≡ suc (length xs)
length-insert_by f x xs = length_permutation (x ∷ xs) (insert_by f x xs) (IsPermutation-insert_by f x xs)

-- before the last
pub insert_by-front : {X : Type 0} (f : X → ℕ) (x z : X) (xs : List X) → f x < f z →
    insert_by f x (xs ++ z ∷ []) ≡ insert_by f x xs ++ z ∷ []
insert_by-front f x z [] l = insert_before f x z [] l
insert_by-front f x z (y ∷ ys) l =
    elim (nat_lt (f x) (f y)) as (λ b. cond b (x ∷ y ∷ (ys ++ z ∷ [])) (y ∷ insert_by f x (ys ++ z ∷ [])) ≡ cond b
    (x ∷ y ∷ ys) (y ∷ insert_by f x ys) ++ z ∷ []) [
      | true ↦ refl
      | false ↦ ap (λ v. y ∷ v) (insert_by-front f x z ys l)
    ]

-- the last of k that is not after x stays
pub insert_by-full : {X : Type 0} (f : X → ℕ) (x : X) (k : ℕ) (xs : List X) (d : X) → Climbing f xs → length xs ≡ k →
    1 ≤ k → f (get_or xs (k - 1) d) ≤ f x → xs ≡ take k (insert_by f x xs)
insert_by-full f x zero xs d h e l b = absurd (omega arith)
insert_by-full f x (suc k) xs d h e l b =
    let b' : f (get_or xs k d) ≤ f x = simp unary_clauses at b in
    let p = insert_by-below f x k xs d h (omega arith) b' in
    let all : take (suc k) xs ≡ xs = take_all (suc k) xs (omega arith) in
    sym (ap (take (suc k)) (p ∙ ap (λ v. v ++ insert_by f x (drop (suc k) xs)) all) ∙ take_at xs _ (suc k) e)

pub insert_by-pop : {X : Type 0} (f : X → ℕ) (x : X) (k : ℕ) (xs : List X) (d : X) → length xs ≡ k → 1 ≤ k →
    f x < f (get_or xs (k - 1) d) → insert_by f x (take (k - 1) xs) ≡ take k (insert_by f x xs)
insert_by-pop f x zero xs d e l b = absurd (omega arith)
insert_by-pop f x (suc k) xs d e l b =
    let b' : f x < f (get_or xs k d) = simp unary_clauses at b in
    let all : xs ≡ take k xs ++ get_or xs k d ∷ [] = sym (take_all (k + 1) xs (omega arith))
    ∙ take_more xs k d (omega arith) in
    let p : insert_by f x xs ≡ insert_by f x (take k xs) ++ get_or xs k d ∷ [] = ap (insert_by f x) all
    ∙ insert_by-front f x (get_or xs k d) (take k xs) b' in
    let n : length (insert_by f x (take k xs)) ≡ suc k = length-insert_by f x (take k xs)
    ∙ ap suc (length-take-le k xs (omega arith)) in
    simp unary_clauses (sym (ap (take (suc k)) p ∙ take_at _ _ (suc k) n))

-- x goes in before the elements that are all after it
pub insert_by-append : {X : Type 0} (f : X → ℕ) (x : X) (xs zs : List X) → All (λ z. f x < f z) zs →
    insert_by f x (xs ++ zs) ≡ insert_by f x xs ++ zs
insert_by-append f x [] [] l = refl
insert_by-append f x [] (z ∷ zs) l = insert_before f x z zs (All-head (λ z. f x < f z) z zs l)
insert_by-append f x (y ∷ ys) zs l =
    elim (nat_lt (f x) (f y)) as (λ b. cond b (x ∷ y ∷ (ys ++ zs)) (y ∷ insert_by f x (ys ++ zs)) ≡ cond b (x ∷ y ∷ ys)
    (y ∷ insert_by f x ys) ++ zs) [
      | true ↦ refl
      | false ↦ ap (λ v. y ∷ v) (insert_by-append f x ys zs l)
    ]

-- what a test says where it fails and where it holds
pub before_false : {t : Bool} {m n : ℕ} → IsTrue t ↔ (m < n) → t ≡ false → n ≤ m
before_false {t} {m} {n} h e =
    let f : m < n → ⊥ = λ l. let k : t ≡ true = h.1 l in cc in omega arith

pub before_true : {t : Bool} {m n : ℕ} → IsTrue t ↔ (m < n) → t ≡ true → m < n
before_true h e = h.0 e
