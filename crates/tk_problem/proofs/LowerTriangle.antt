-- The cells below the diagonal, row by row, and the index of each.
use Rattle.std.proofs.Common.{◌≡◌, ℕ, zero, suc, ◌+◌, ◌-◌, ◌*◌, ◌/◌, ◌<◌, List, [], ◌∷◌, ◌++◌, length, get_or, map, max}
use Rattle.std.proofs.Common.{min, arith, lit<, sym, ap, subst, ◌∙◌, refl, inl, inr, length-append}
use Rattle.std.specs.List.{range_with_len, flat_map}
use Rattle.std.proofs.lemmas.Bool.{cases_lt}
use Rattle.std.proofs.lemmas.List.{append-nil, get_or_append_left, get_or-append_right}
use Rattle.std.proofs.lemmas.List.Concat.{flat_map-append}
use Rattle.std.proofs.lemmas.List.FromFn.{length-map-range_with_len, get_or-map-range_with_len}
use Rattle.std.proofs.Math.Nat.{add-mul-div_right}
use Rattle.tk_problem.specs.declared.cell.Cell.{Cell}
use Rattle.tk_problem.specs.declared.weights.Format.TheVariants.{LowerRow}
use Rattle.tk_problem.specs.WeightOrder.{place, order, lower_index}
use Rattle.tk_problem.proofs.WeightLines.{order-lines}

-- the number of cells below the diagonal of n rows
abbrev pub pairs : ℕ → ℕ
pairs n = n * (n - 1) / 2

pub pairs-suc : (n : ℕ) → pairs (suc n) ≡ pairs n + n
pairs-suc zero = refl
pairs-suc (suc n) =
    let above : suc (suc n) - 1 ≡ suc n = omega arith in
    let below : suc n - 1 ≡ n = omega arith in
    let e : suc (suc n) * suc n ≡ suc n * n + suc n * 2 = omega arith in
    rw (above, below, e) (add-mul-div_right (suc n * n) (suc n) {z = 2} (lit< tt))

pub pairs-below : (n i j : ℕ) → j < i → i < n → pairs i + j < pairs n
pairs-below zero i j below within = absurd (omega arith)
pairs-below (suc n) i j below within =
    elim (cases_lt i n) as (λ _. pairs i + j < pairs (suc n)) [
      | inl less ↦ omega (arith, pairs-suc n, pairs-below n i j below less)
      | inr more ↦ let same : i ≡ n = omega arith in omega (arith, pairs-suc n, ap pairs same)
    ]

pub lower_index-below : (i j : ℕ) → j < i → lower_index (place i j) ≡ pairs i + j
lower_index-below i j less = let e : max i j ≡ i = omega arith in let f : min i j ≡ j = omega arith in rw (e, f) refl

pub lower_index-above : (i j : ℕ) → j < i → lower_index (place j i) ≡ pairs i + j
lower_index-above i j less = let e : max j i ≡ i = omega arith in let f : min j i ≡ j = omega arith in rw (e, f) refl

-- ---- row by row

abbrev row : ℕ → List Cell
row i = map (λ j. place i j) (range_with_len 0 (i - 0))

abbrev triangle : ℕ → List Cell
triangle n = flat_map row (range_with_len 0 n)

pub range_more : (a n : ℕ) → range_with_len a (suc n) ≡ range_with_len a n ++ (a + n) ∷ []
range_more a zero = ap (λ k. k ∷ []) (omega arith)
range_more a (suc n) =
    ap (λ ks. a ∷ ks) (range_more (a + 1) n ∙ ap (λ k. range_with_len (a + 1) n ++ k ∷ []) (omega arith))

triangle-suc : (n : ℕ) → triangle (suc n) ≡ triangle n ++ row n
triangle-suc n =
    let last : 0 + n ≡ n = omega arith in
    ap (flat_map row) (range_more 0 n) ∙ flat_map-append row (range_with_len 0 n) ((0 + n) ∷ [])
    ∙ ap (λ ps. triangle n ++ ps) (append-nil (row (0 + n))) ∙ ap (λ k. triangle n ++ row k) last

length-row : (n : ℕ) → length (row n) ≡ n
length-row n = length-map-range_with_len (λ j. place n j) 0 (n - 0) ∙ omega arith

length-triangle : (n : ℕ) → length (triangle n) ≡ pairs n
length-triangle zero = refl
length-triangle (suc n) = ap length (triangle-suc n) ∙ length-append (triangle n) (row n)
    ∙ omega (arith, length-triangle n, length-row n, pairs-suc n)

get_or-row : (n j : ℕ) (d : Cell) → j < n → get_or (row n) j d ≡ place n j
get_or-row n j d less = get_or-map-range_with_len (λ m. place n m) 0 (n - 0) j j d (omega arith) (omega arith)

-- the cell at an index, with one more row
in_front : (n k : ℕ) (d : Cell) → k < pairs n → get_or (triangle (suc n)) k d ≡ get_or (triangle n) k d
in_front n k d less = ap (λ ps. get_or ps k d) (triangle-suc n)
    ∙ get_or_append_left (triangle n) (row n) d k (omega (arith, length-triangle n))

in_row : (n j k : ℕ) (d : Cell) → j < n → pairs n + j ≡ k → get_or (triangle (suc n)) k d ≡ place n j
in_row n j k d less at =
    let offset : k - pairs n ≡ j = omega arith in
    ap (λ ps. get_or ps k d) (triangle-suc n)
    ∙ get_or-append_right (triangle n) (row n) (pairs n) k d (length-triangle n) (omega arith)
    ∙ ap (λ i. get_or (row n) i d) offset ∙ get_or-row n j d less

-- the cell of i and j is at its index
get_or-triangle : (n i j : ℕ) (d : Cell) → j < i → i < n → get_or (triangle n) (pairs i + j) d ≡ place i j
get_or-triangle zero i j d below within = absurd (omega arith)
get_or-triangle (suc n) i j d below within =
    elim (cases_lt i n) as (λ _. get_or (triangle (suc n)) (pairs i + j) d ≡ place i j) [
      | inl less ↦ in_front n (pairs i + j) d (pairs-below n i j below less) ∙ get_or-triangle n i j d below less
      | inr more ↦ let same : n ≡ i = omega arith in
          in_row n j (pairs i + j) d (omega arith) (ap (λ k. pairs k + j) same) ∙ ap (λ k. place k j) same
    ]

-- p is the cell below the diagonal of n rows that has the index k
abbrev pub IsPlaceAt : ℕ → ℕ → Cell → Type 0
IsPlaceAt n k p = (p.column < p.row) × (p.row < n) × (pairs p.row + p.column ≡ k)

place-triangle : (n k : ℕ) (d : Cell) → k < pairs n → IsPlaceAt n k (get_or (triangle n) k d)
place-triangle zero k d within = absurd (omega arith)
place-triangle (suc n) k d within =
    elim (cases_lt k (pairs n)) as (λ _. IsPlaceAt (suc n) k (get_or (triangle (suc n)) k d)) [
      | inl less ↦ let h = place-triangle n k d less in
          subst (IsPlaceAt (suc n) k) (sym (in_front n k d less)) (h.0, omega arith, h.2)
      | inr more ↦
          let j : ℕ = k - pairs n in
          let short : j < n = omega (arith, pairs-suc n) in
          subst (IsPlaceAt (suc n) k) (sym (in_row n j k d short (omega arith))) (short, omega arith, omega arith)
    ]

-- ---- as the order of a format

pub length-lower : (n : ℕ) → length (order LowerRow n) ≡ pairs n
length-lower n = ap length (order-lines LowerRow n) ∙ length-triangle n

pub get_or-lower : (n i j : ℕ) (d : Cell) → j < i → i < n → get_or (order LowerRow n) (pairs i + j) d ≡ place i j
get_or-lower n i j d below within = ap (λ ps. get_or ps (pairs i + j) d) (order-lines LowerRow n)
    ∙ get_or-triangle n i j d below within

pub place-lower : (n k : ℕ) (d : Cell) → k < pairs n → IsPlaceAt n k (get_or (order LowerRow n) k d)
place-lower n k d within =
    subst (λ ps. IsPlaceAt n k (get_or ps k d)) (sym (order-lines LowerRow n)) (place-triangle n k d within)
