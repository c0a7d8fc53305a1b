-- The weights of all pairs, as their entries are read one by one.
use Rattle.std.proofs.Common.{◌≡◌, ◌≢◌, ℕ, zero, suc, ◌+◌, ◌-◌, ◌<◌, Bool, true, false, ◌&&◌, ◌||◌, cond, eqb}
use Rattle.std.proofs.Common.{List, [], ◌∷◌, ◌++◌, length, get_or, set, map, replicate, All, arith, sym, ap, ◌∙◌, refl}
use Rattle.std.proofs.Common.{subst, inl, inr, ◌⊎◌, length-set, fold}
use Rattle.std.specs.List.{range_with_len, flat_map}
use Rattle.std.proofs.lemmas.List.Elements.{All-nil, All-cons, All-append}
use Rattle.std.proofs.lemmas.Bool.{cases_lt, false≢true}
use Rattle.std.proofs.lemmas.Bool.Decides.{nat_tests}
use Rattle.std.proofs.Math.Bool.{or_comm}
use Rattle.std.proofs.Math.Path.{fun_ext}
use Rattle.tk_problem.specs.WeightLines.{first_item, end_item, place_on, items}
use Rattle.tk_problem.proofs.WeightLines.{lines_within, order-lines}
use Rattle.std.proofs.lemmas.List.{get_or-map, get_or-set_same, get_or-set_other, get_or-replicate, length-replicate}
use Rattle.std.proofs.lemmas.List.{length-map, ext_get_or}
use Rattle.std.proofs.lemmas.List.Sums.{fold_push}
use Rattle.tk_problem.specs.declared.cell.Cell.{Cell}
use Rattle.tk_problem.specs.declared.weights.Format.{Format}
use Rattle.tk_problem.specs.declared.weights.Format.TheVariants.{FullMatrix, LowerRow}
use Rattle.tk_problem.specs.WeightOrder.{place, order, is_of, weight_of, lower_of, lower_index}
use Rattle.tk_problem.proofs.LowerTriangle.{pairs, pairs-below, lower_index-below, lower_index-above, length-lower}
use Rattle.tk_problem.proofs.LowerTriangle.{get_or-lower, place-lower}

-- ---- the cells of a pair

pub two_ways : (a b c d : Bool) → (a && b || c && d) ≡ true → ((a ≡ true) × (b ≡ true)) ⊎ ((c ≡ true) × (d ≡ true))
two_ways true true c d e = inl (refl, refl)
two_ways true false true true e = inr (refl, refl)
two_ways false b true true e = inr (refl, refl)
two_ways _ _ _ _ e = cc

pub same_number : (a b : ℕ) → eqb a b ≡ true → a ≡ b
same_number a b e = grind (arith, nat_tests)

lower_index-of : (i j : ℕ) (p : Cell) → j < i → is_of i j p ≡ true → lower_index p ≡ pairs i + j
lower_index-of i j p less e =
    elim (two_ways (eqb p.row i) (eqb p.column j) (eqb p.row j) (eqb p.column i) e) as (λ _. lower_index
    p ≡ pairs i + j) [
      | inl h ↦ ap (λ r. lower_index (place r p.column)) (same_number p.row i h.0)
          ∙ ap (λ c. lower_index (place i c)) (same_number p.column j h.1) ∙ lower_index-below i j less
      | inr h ↦ ap (λ r. lower_index (place r p.column)) (same_number p.row j h.0)
          ∙ ap (λ c. lower_index (place j c)) (same_number p.column i h.1) ∙ lower_index-above i j less
    ]

is_of-diagonal : (i j : ℕ) (p : Cell) → j < i → p.row ≡ p.column → is_of i j p ≡ false
is_of-diagonal i j p less e = grind (arith, nat_tests)

is_of-below : (i j : ℕ) → is_of i j (place i j) ≡ true
is_of-below i j = grind (arith, nat_tests)

pub is_of-above : (i j : ℕ) → is_of i j (place j i) ≡ true
is_of-above i j = grind (arith, nat_tests)

-- ---- one more entry

abbrev pub origin : Cell
origin = place 0 0

weight_of-push : (i j : ℕ) (es : List (Cell × ℕ)) (p : Cell) (w : ℕ) →
    weight_of i j (es ++ (p, w) ∷ []) ≡ cond (is_of i j p) w (weight_of i j es)
weight_of-push i j es p w = fold_push (λ w e. cond (is_of i j e.0) e.1 w) 0 es (p, w)

pub length-lower_of : (n : ℕ) (es : List (Cell × ℕ)) → length (lower_of n es) ≡ pairs n
length-lower_of n es = length-map (order LowerRow n) (λ p. weight_of p.row p.column es) ∙ length-lower n

get_or-lower_of : (n k : ℕ) (es : List (Cell × ℕ)) → k < pairs n → let p = get_or (order LowerRow n) k origin in
    get_or (lower_of n es) k 0 ≡ weight_of p.row p.column es
get_or-lower_of n k es within = get_or-map (λ p. weight_of p.row p.column es) (order LowerRow n) k origin 0
    (omega (arith, length-lower n))

-- an entry of a pair sets the weight of this pair and of no other
at_index : (n hi lo k : ℕ) (es : List (Cell × ℕ)) (p : Cell) (w : ℕ) → lo < hi → hi < n
    → is_of hi lo p ≡ true → k < pairs n
    → (t : Bool) → (let q = get_or (order LowerRow n) k origin in is_of q.row q.column p ≡ t)
    → (let q = get_or (order LowerRow n) k origin in cond t w (weight_of q.row q.column es)) ≡ get_or
    (set (lower_of n es) (lower_index p) w) k 0
at_index n hi lo k es p w less within here short true e =
    let q : Cell = get_or (order LowerRow n) k origin in
    let at = place-lower n k origin short in
    let index : lower_index p ≡ k = lower_index-of q.row q.column p at.0 e ∙ at.2 in
    sym (ap (λ i. get_or (set (lower_of n es) i w) k 0) index
    ∙ get_or-set_same (lower_of n es) k w 0 (omega (arith, length-lower_of n es)))
at_index n hi lo k es p w less within here short false e =
    let apart : k ≢ lower_index p = λ same.
    let found : get_or (order LowerRow n) k origin ≡ place hi lo =
    ap (λ i. get_or (order LowerRow n) i origin) (same ∙ lower_index-of hi lo p less here)
    ∙ get_or-lower n hi lo origin less within in
    false≢true (sym e ∙ ap (λ q. is_of q.row q.column p) found ∙ here) in
    sym (get_or-set_other (lower_of n es) (lower_index p) k w 0 apart ∙ get_or-lower_of n k es short)

lower_of-set : (n hi lo : ℕ) (es : List (Cell × ℕ)) (p : Cell) (w : ℕ) → lo < hi → hi < n → is_of hi lo p ≡ true
    → lower_of n (es ++ (p, w) ∷ []) ≡ set (lower_of n es) (lower_index p) w
lower_of-set n hi lo es p w less within here =
    let more : List (Cell × ℕ) = es ++ (p, w) ∷ [] in
    ext_get_or 0 (lower_of n more) (set (lower_of n es) (lower_index p) w) (length-lower_of n more
    ∙ sym (length-set (lower_of n es) (lower_index p) w ∙ length-lower_of n es)) (λ k inside.
    let short : k < pairs n = omega (arith, length-lower_of n more) in
    let q : Cell = get_or (order LowerRow n) k origin in
    get_or-lower_of n k more short ∙ weight_of-push q.row q.column es p w
    ∙ at_index n hi lo k es p w less within here short (is_of q.row q.column p) refl)

pub lower_of-push : (n : ℕ) (es : List (Cell × ℕ)) (p : Cell) (w : ℕ) → p.row < n → p.column < n → p.row ≢ p.column →
    lower_of n (es ++ (p, w) ∷ []) ≡ set (lower_of n es) (lower_index p) w
lower_of-push n es p w row_in column_in apart =
    elim (cases_lt p.column p.row) as (λ _. lower_of n (es ++ (p, w) ∷ []) ≡ set (lower_of n es) (lower_index p) w) [
      | inl less ↦ lower_of-set n p.row p.column es p w less row_in (is_of-below p.row p.column)
      | inr more ↦ lower_of-set n p.column p.row es p w (omega arith) column_in (is_of-above p.column p.row)
    ]

-- an entry on the diagonal sets no weight
pub lower_of-diagonal : (n : ℕ) (es : List (Cell × ℕ)) (p : Cell) (w : ℕ) → p.row ≡ p.column →
    lower_of n (es ++ (p, w) ∷ []) ≡ lower_of n es
lower_of-diagonal n es p w on =
    let more : List (Cell × ℕ) = es ++ (p, w) ∷ [] in
    ext_get_or 0 (lower_of n more) (lower_of n es) (length-lower_of n more ∙ sym (length-lower_of n es)) (λ k inside.
    let short : k < pairs n = omega (arith, length-lower_of n more) in
    let q : Cell = get_or (order LowerRow n) k origin in
    let at = place-lower n k origin short in
    get_or-lower_of n k more short ∙ weight_of-push q.row q.column es p w
    ∙ ap (λ t. cond t w (weight_of q.row q.column es)) (is_of-diagonal q.row q.column p at.0 on)
    ∙ sym (get_or-lower_of n k es short))

-- without entries, all weights are 0
pub lower_of-none : (n : ℕ) → lower_of n [] ≡ replicate (pairs n) 0
lower_of-none n =
    ext_get_or 0 (lower_of n []) (replicate (pairs n) 0) (length-lower_of n []
    ∙ sym (length-replicate (pairs n) 0)) (λ k inside.
    let short : k < pairs n = omega (arith, length-lower_of n []) in
    get_or-lower_of n k [] short ∙ sym (get_or-replicate (pairs n) k 0 0 short))

-- the weight of a pair is at the index of the pair
same_weight : (i j : ℕ) (es : List (Cell × ℕ)) → weight_of i j es ≡ weight_of j i es
same_weight i j es = ap (λ (test : Cell → Bool). fold (λ w e. cond (test e.0) e.1 w) 0 es)
    (fun_ext (λ p. or_comm (eqb p.row i && eqb p.column j) (eqb p.row j && eqb p.column i)))

weight_at_index : (n hi lo : ℕ) (es : List (Cell × ℕ)) → lo < hi → hi < n →
    get_or (lower_of n es) (pairs hi + lo) 0 ≡ weight_of hi lo es
weight_at_index n hi lo es less within =
    get_or-lower_of n (pairs hi + lo) es (pairs-below n hi lo less within)
    ∙ ap (λ p. weight_of p.row p.column es) (get_or-lower n hi lo origin less within)

pub weight_at : (n : ℕ) (es : List (Cell × ℕ)) (p : Cell) → p.row < n → p.column < n → p.row ≢ p.column →
    get_or (lower_of n es) (lower_index p) 0 ≡ weight_of p.row p.column es
weight_at n es p row_in column_in apart =
    elim (cases_lt p.column p.row) as (λ _. get_or (lower_of n es) (lower_index p) 0 ≡ weight_of p.row p.column es) [
      | inl less ↦ ap (λ k. get_or (lower_of n es) k 0) (lower_index-below p.row p.column less)
          ∙ weight_at_index n p.row p.column es less row_in
      | inr more ↦
          let less : p.row < p.column = omega arith in
          ap (λ k. get_or (lower_of n es) k 0) (lower_index-above p.column p.row less)
          ∙ weight_at_index n p.column p.row es less column_in ∙ same_weight p.column p.row es
    ]

pub lower_index-lt : (n : ℕ) (p : Cell) → p.row < n → p.column < n → p.row ≢ p.column → lower_index p < pairs n
lower_index-lt n p row_in column_in apart = elim (cases_lt p.column p.row) as (λ _. lower_index p < pairs n) [
  | inl less ↦ omega (arith, lower_index-below p.row p.column less, pairs-below n p.row p.column less row_in)
  | inr more ↦
      let less : p.row < p.column = omega arith in
      omega (arith, lower_index-above p.column p.row less, pairs-below n p.column p.row less column_in)
]

-- ---- the cells of a format

abbrev pub IsWithin : ℕ → Cell → Type 0
IsWithin n p = (p.row < n) × (p.column < n)

All-line : (P : Cell → Type 0) (h : ℕ → Cell) (s c : ℕ) → ((m : ℕ) → m < s + c → P (h m)) →
    All P (map h (range_with_len s c))
All-line P h s zero each = All-nil P
All-line P h s (suc c) each =
    All-cons P (h s) (map h (range_with_len (s + 1) c)) (each s (omega arith))
    (All-line P h (s + 1) c (λ m less. each m (omega arith)))

All-lines : (P : Cell → Type 0) (g : ℕ → List Cell) (s c : ℕ) → ((k : ℕ) → k < s + c → All P (g k)) →
    All P (flat_map g (range_with_len s c))
All-lines P g s zero each = All-nil P
All-lines P g s (suc c) each = All-append P (g s) (flat_map g (range_with_len (s + 1) c)) (each s (omega arith))
    (All-lines P g (s + 1) c (λ k less. each k (omega arith)))

place_within : (f : Format) (n k m : ℕ) → k < n → m < n → IsWithin n (place_on f k m)
place_within FullMatrix n k m line item = (line, item)
place_within _ n k m line item = (omega arith, omega arith)

pub order-within : (f : Format) (n : ℕ) → All (IsWithin n) (order f n)
order-within f n =
    subst (All (IsWithin n)) (sym (order-lines f n))
    (All-lines (IsWithin n) (λ k. items f k (first_item f k) (end_item f n k)) 0 n (λ k line.
    let within = lines_within f n k (omega arith) in
    All-line (IsWithin n) (place_on f k) (first_item f k) (end_item f n k - first_item f k) (λ m item.
    place_within f n k m (omega arith) (omega (arith, within, item)))))
