-- A candidate goes to its place in a list that keeps its length.
use Rattle.std.proofs.Common.{◌≡◌, ℕ, zero, suc, ◌+◌, ◌-◌, ◌<◌, ◌≤◌, ◌⊎◌, ⊎_elim, inl, inr, List, [], ◌∷◌, ◌++◌, length}
use Rattle.std.proofs.Common.{take, drop, set, refl, sym, ap, ◌∙◌, arith, get_or}
use Rattle.std.specs.Prelude.{insert}
use Rattle.std.proofs.lemmas.List.Edits.{get_or-insert_above, get_or-insert_below}
use Rattle.std.proofs.lemmas.List.{drop_all, get_or-take, length-take, length-take-le}
use native.Mathlib.Numerals.{unary_clauses}
use Rattle.tk_near.specs.declared.candidates.Candidate.{Candidate}
use Rattle.tk_near.specs.Keeping.{AreOpenFrom, Climbing, insert_by, rank}
use Rattle.tk_near.proofs.SortedInsertion.{Climbing-take, insert_before, insert_by-below, insert_by-pop}

-- a write where an element went in
set_inserted : {X : Type 0} (i : ℕ) (xs : List X) (y x : X) → i ≤ length xs → set (insert xs i y) i x ≡ insert xs i x
set_inserted zero xs y x l = refl
set_inserted (suc i) [] y x l = absurd (omega arith)
set_inserted (suc i) (z ∷ zs) y x l = ap (λ v. z ∷ v) (set_inserted i zs y x (omega arith))

-- the element below is written over what went in: now it is there twice
set_below : {X : Type 0} (j : ℕ) (xs : List X) (y d : X) → j < length xs →
    set (insert xs (suc j) y) (suc j) (get_or xs j d) ≡ insert xs j (get_or xs j d)
set_below j [] y d l = absurd (omega arith)
set_below zero (z ∷ zs) y d l = refl
set_below (suc j) (z ∷ zs) y d l = ap (λ v. z ∷ v) (set_below j zs y d (omega arith))

-- before an element that is after it
pub insert_by-drop : {X : Type 0} (f : X → ℕ) (x : X) (j : ℕ) (xs : List X) (d : X) → j < length xs →
    f x < f (get_or xs j d) → insert_by f x (drop j xs) ≡ x ∷ drop j xs
insert_by-drop f x j [] d l b = absurd (omega arith)
insert_by-drop f x zero (y ∷ ys) d l b = insert_before f x y ys b
insert_by-drop f x (suc j) (y ∷ ys) d l b = insert_by-drop f x j ys d (omega arith) b

-- what the loop keeps: some y stands at i among the others, and x goes before those from i on
pub keep_step : {X : Type 0} (f : X → ℕ) (x y : X) (i : ℕ) (front kept : List X) (d : X) → 0 < i → i ≤ length front →
    kept ≡ insert front i y → f x < f (get_or kept (i - 1) d) →
    (set kept i (get_or kept (i - 1) d) ≡ insert front (i - 1) (get_or kept (i - 1) d))
    × (insert_by f x (drop (i - 1) front) ≡ x ∷ drop (i - 1) front)
keep_step f x y zero front kept d o l e b = absurd (omega arith)
keep_step f x y (suc j) front kept d o l e b =
    let at : get_or kept j d ≡ get_or front j d = ap (λ v. get_or v j d) e
    ∙ get_or-insert_below front (suc j) y d j (omega arith) l in
    let b' : f x < f (get_or kept j d) = simp unary_clauses at b in
    let c : f x < f (get_or front j d) = rw at at b' in
    let written : set kept (suc j) (get_or kept j d) ≡ insert front j (get_or kept j d) =
    rw at (ap (λ v. set v (suc j) (get_or front j d)) e ∙ set_below j front y d (omega arith)) in
    simp unary_clauses (written, insert_by-drop f x j front d (omega arith) c)

insert_done : {X : Type 0} (f : X → ℕ) (x : X) (i : ℕ) (front : List X) (d : X) → Climbing f front → i ≤ length front →
    insert_by f x (drop i front) ≡ x ∷ drop i front → (0 < i → f (get_or (insert front i x) (i - 1) d) ≤ f x) →
    insert front i x ≡ insert_by f x front
insert_done f x zero front d up l e b = sym e
insert_done f x (suc j) front d up l e b =
    let at : get_or (insert front (suc j) x) j d ≡ get_or front j d =
    get_or-insert_below front (suc j) x d j (omega arith) l in
    let b' : f (get_or (insert front (suc j) x) j d) ≤ f x = simp unary_clauses at (b (omega arith)) in
    let c : f (get_or front j d) ≤ f x = rw at at b' in
    ap (λ v. take (suc j) front ++ v) (sym e) ∙ sym (insert_by-below f x j front d up (omega arith) c)

below_inserted : {X : Type 0} (f : X → ℕ) (x y : X) (i : ℕ) (front kept : List X) (d : X) → i ≤ length front →
    kept ≡ insert front i y → (0 < i → f (get_or kept (i - 1) d) ≤ f x) → 0 < i →
    f (get_or (insert front i x) (i - 1) d) ≤ f x
below_inserted f x y i front kept d l e stop o =
    let at : get_or kept (i - 1) d ≡ get_or (insert front i x) (i - 1) d =
    ap (λ v. get_or v (i - 1) d) e ∙ get_or-insert_below front i y d (i - 1) (omega arith) l
    ∙ sym (get_or-insert_below front i x d (i - 1) (omega arith) l) in
    rw at at (stop o)

pub keep_end : {X : Type 0} (f : X → ℕ) (x y : X) (i : ℕ) (xs kept : List X) (d : X) → Climbing f xs → 1 ≤ length xs →
    f x < f (get_or xs (length xs - 1) d) → i < length xs → kept ≡ insert (take (length xs - 1) xs) i y →
    insert_by f x (drop i (take (length xs - 1) xs)) ≡ x ∷ drop i (take (length xs - 1) xs) →
    (0 < i → f (get_or kept (i - 1) d) ≤ f x) → set kept i x ≡ take (length xs) (insert_by f x xs)
keep_end f x y i xs kept d up one b l e last stop =
    let n : length (take (length xs - 1) xs) ≡ length xs - 1 = length-take-le (length xs - 1) xs (omega arith) in
    let in' : i ≤ length (take (length xs - 1) xs) = omega arith in
    ap (λ v. set v i x) e ∙ set_inserted i (take (length xs - 1) xs) y x in'
    ∙ insert_done f x i (take (length xs - 1) xs) d (Climbing-take f (length xs - 1) xs up) in' last
    (below_inserted f x y i (take (length xs - 1) xs) kept d in' e stop)
    ∙ insert_by-pop f x (length xs) xs d refl one b

shift_same : {X : Type 0} (n : ℕ) (y : X) (ys : List X) (d : X) → length ys ≡ n →
    ((j : ℕ) → j < n → get_or (y ∷ ys) j d ≡ get_or ys j d) → ys ≡ take n (y ∷ ys)
shift_same zero y [] d l same = refl
shift_same zero y (z ∷ zs) d l same = absurd (omega arith)
shift_same (suc n) y [] d l same = absurd (omega arith)
shift_same (suc n) y (z ∷ zs) d l same =
    let here : y ≡ z = same 0 (omega arith) in
    ap (λ v. v ∷ zs) (sym here)
    ∙ ap (λ v. y ∷ v) (shift_same n z zs d (omega arith) (λ j m. same (suc j) (omega arith)))

-- one of those that are all the same from i on, to the last, stands at i among the others
same_inserted : {X : Type 0} (i n : ℕ) (xs : List X) (d : X) → length xs ≡ suc n → i ≤ n →
    ((j : ℕ) → i ≤ j → j < n → get_or xs j d ≡ get_or xs (suc j) d) → xs ≡ insert (take n xs) i (get_or xs i d)
same_inserted i n [] d e l same = absurd (omega arith)
same_inserted zero n (y ∷ ys) d e l same =
    ap (λ v. y ∷ v) (shift_same n y ys d (omega arith) (λ j m. same j (omega arith) m))
same_inserted (suc i) zero (y ∷ ys) d e l same = absurd (omega arith)
same_inserted (suc i) (suc n) (y ∷ ys) d e l same =
    ap (λ v. y ∷ v)
    (same_inserted i n ys d (omega arith) (omega arith) (λ j a b. same (suc j) (omega arith) (omega arith)))

-- before the loop
pub keep_start : (x : Candidate) (n end filled : ℕ) (xs : List Candidate) (d : Candidate) → length xs ≡ suc n
    → ((filled < n) × (end ≡ filled)) ⊎ (end ≡ n) → AreOpenFrom filled xs → rank x < rank (get_or xs n d)
    → (xs ≡ insert (take n xs) end (get_or xs end d))
    × (insert_by rank x (drop end (take n xs)) ≡ x ∷ drop end (take n xs))
keep_start x n end filled xs d l ends opens first = elim ends [
  | inl e ↦
      let at : get_or xs end d ≡ get_or xs n d = opens end d (omega arith) (omega arith)
      ∙ sym (opens n d (omega arith) (omega arith)) in
      let front : get_or (take n xs) end d ≡ get_or xs n d = get_or-take n xs end d (omega arith) ∙ at in
      let size = length-take-le n xs (omega arith) in (
        same_inserted end n xs d l (omega arith) (λ j a b. opens j d (omega arith) (omega arith)
            ∙ sym (opens (suc j) d (omega arith) (omega arith))),
        insert_by-drop rank x end (take n xs) d (omega arith) (rw front first),
      )
  | inr e ↦
      let none : drop end (take n xs) ≡ [] = drop_all end (take n xs) (omega (arith, e, length-take n xs)) in (
        same_inserted end n xs d l (omega arith) (λ j a b. absurd (omega arith)),
        ap (insert_by rank x) none ∙ ap (λ v. x ∷ v) (sym none),
      )
]

-- after the loop
pub still_open : (x y : Candidate) (n i end filled : ℕ) (xs kept new : List Candidate) → length xs ≡ suc n →
    ((filled < n) × (end ≡ filled)) ⊎ (end ≡ n) → AreOpenFrom filled xs → i ≤ end → kept ≡ insert (take n xs) i y →
    new ≡ set kept i x → length new ≡ length xs → AreOpenFrom (end + 1) new
still_open x y n i end filled xs kept new l ends opens low is written size = λ j d a b.
    let m : length (take n xs) ≡ n = length-take-le n xs (omega arith) in
    let now : new ≡ insert (take n xs) i x = written ∙ ap (λ v. set v i x) is
    ∙ set_inserted i (take n xs) y x (omega arith) in
    let next : j - 1 + 1 ≡ j = omega arith in
    let behind : get_or new (j - 1 + 1) d ≡ get_or xs (j - 1) d =
    ap (λ v. get_or v (j - 1 + 1) d) now
    ∙ get_or-insert_above (take n xs) i x d (j - 1) (omega arith) (omega arith)
    ∙ get_or-take n xs (j - 1) d (omega arith) in
    ap (λ v. get_or new v d) (sym next) ∙ behind
    ∙ ⊎_elim (λ e. opens (j - 1) d (omega arith) (omega arith)) (λ e. absurd (omega arith)) ends
