-- The order of explicit weights, line by line.
use Rattle.std.proofs.Common.{Bool, true, false, ltb, leb, ◌&&◌, ◌≡◌, ℕ, zero, suc, ◌+◌, ◌-◌, ◌<◌, ◌≤◌, List, [], ◌∷◌}
use Rattle.std.proofs.Common.{◌++◌, inl, inr, map, arith, ap, ◌∙◌, refl, drop, length, sym, ◌==◌, Some, slice_get}
use Rattle.std.specs.List.{range_with_len, flat_map, filter}
use Rattle.std.proofs.lemmas.List.{append-nil}
use Rattle.std.proofs.lemmas.List.Elements.{filter-append}
use Rattle.std.proofs.lemmas.Bool.{cases_lt}
use Rattle.std.proofs.lemmas.Bool.Decides.{nat_tests}
use Rattle.tk_problem.specs.declared.cell.Cell.{Cell}
use Rattle.tk_problem.specs.declared.weights.Format.{Format}
use Rattle.tk_problem.specs.declared.weights.Format.TheVariants.{FullMatrix, UpperRow, LowerRow, UpperDiagRow}
use Rattle.tk_problem.specs.declared.weights.Format.TheVariants.{LowerDiagRow, UpperCol, LowerCol, UpperDiagCol}
use Rattle.tk_problem.specs.declared.weights.Format.TheVariants.{LowerDiagCol}
use Rattle.tk_problem.specs.WeightOrder.{order, place}
use Rattle.tk_problem.specs.WeightLines.{first_item, end_item, place_on, items, weight_lines, places_from}

pub items_more : (f : Format) (line from end : ℕ) → from < end → items f line from end ≡ place_on f line from
    ∷ items f line (from + 1) end
items_more f line from end less = let some : end - from ≡ suc (end - (from + 1)) = omega arith in rw some refl

pub lines_more : (f : Format) (n line : ℕ) → line < n →
    weight_lines f n line (n - line) ≡ places_from f n line (first_item f line) (end_item f n line)
lines_more f n line less = let some : n - line ≡ suc (n - (line + 1)) = omega arith in rw some refl

pub places_more : (f : Format) (n line item end : ℕ) → item < end → places_from f n line item end ≡ place_on f line item
    ∷ places_from f n line (item + 1) end
places_more f n line item end less =
    ap (λ ps. ps ++ weight_lines f n (line + 1) (n - (line + 1))) (items_more f line item end less)

-- after the last cell of a line, those of the lines after it are left
pub places_last : (f : Format) (n line item end : ℕ) → end ≤ item + 1
    → (end ≤ item → weight_lines f n (line + 1) (n - (line + 1)) ≡ []) → 0 < length (places_from f n line item end)
    → weight_lines f n (line + 1) (n - (line + 1)) ≡ drop 1 (places_from f n line item end)
places_last f n line item end last done more =
    elim (cases_lt item end) as (λ _. rest ≡ drop 1 (places_from f n line item end)) [
      | inl less ↦
          let one : places_from f n line item end ≡ place_on f line item ∷ rest =
          places_more f n line item end less ∙ ap (λ ps. place_on f line item ∷ ps ++ rest) (none (item + 1) last) in
          sym (ap (drop 1) one)
      | inr over ↦
          let empty : places_from f n line item end ≡ [] = rw (none item over, done over) refl in
          absurd (omega (arith, more, ap length empty))
    ]
  where
    rest : List Cell
    rest = weight_lines f n (line + 1) (n - (line + 1))

    none : (from : ℕ) → end ≤ from → items f line from end ≡ []
    none from over = let left : end - from ≡ 0 = omega arith in rw left refl

-- no cell is left exactly if no item of the line is left
pub none_left : (f : Format) (n line item end : ℕ)
    → (end ≤ item → weight_lines f n (line + 1) (n - (line + 1)) ≡ [])
    → leb end item ≡ (length (places_from f n line item end) == 0)
none_left f n line item end done =
    elim (cases_lt item end) as (λ _. leb end item ≡ (length (places_from f n line item end) == 0)) [
      | inl less ↦
          let some : 0 < length (places_from f n line item end) =
          rw (places_more f n line item end less) (omega arith) in
          grind (arith, nat_tests)
      | inr over ↦
          let left : end - item ≡ 0 = omega arith in
          let empty : places_from f n line item end ≡ [] = rw (left, done over) refl in
          let none : length (places_from f n line item end) ≡ 0 = ap length empty in
          grind (arith, nat_tests)
    ]

-- the first cell that is left is that of the next item
pub first_left : (f : Format) (n line item end : ℕ)
    → (end ≤ item → weight_lines f n (line + 1) (n - (line + 1)) ≡ []) → 0 < length (places_from f n line item end)
    → slice_get (places_from f n line item end) 0 ≡ Some (place_on f line item)
first_left f n line item end done more =
    elim (cases_lt item end) as (λ _. slice_get (places_from f n line item end) 0 ≡ Some (place_on f line item)) [
      | inl less ↦ ap (λ ps. slice_get ps 0) (places_more f n line item end less)
      | inr over ↦
          let left : end - item ≡ 0 = omega arith in
          let empty : places_from f n line item end ≡ [] = rw (left, done over) refl in
          absurd (omega (arith, more, ap length empty))
    ]

-- ---- the order, which is a selection of all cells, goes through the cells line by line

-- cells at the numbers from s on: all are kept, none is kept, or they are split in two
filter_all : (h : ℕ → Cell) (p : Cell → Bool) (s c : ℕ) → ((m : ℕ) → s ≤ m → m < s + c → p (h m) ≡ true) →
    filter p (map h (range_with_len s c)) ≡ map h (range_with_len s c)
filter_all h p s zero kept = refl
filter_all h p s (suc c) kept =
    rw (kept s (omega arith) (omega arith))
    (ap (λ ps. h s ∷ ps) (filter_all h p (s + 1) c (λ m more less. kept m (omega arith) (omega arith))))

filter_none : (h : ℕ → Cell) (p : Cell → Bool) (s c : ℕ) → ((m : ℕ) → s ≤ m → m < s + c → p (h m) ≡ false) →
    filter p (map h (range_with_len s c)) ≡ []
filter_none h p s zero left = refl
filter_none h p s (suc c) left =
    rw (left s (omega arith) (omega arith))
    (filter_none h p (s + 1) c (λ m more less. left m (omega arith) (omega arith)))

split : (h : ℕ → Cell) (s c d : ℕ) → map h (range_with_len s (c + d)) ≡ map h (range_with_len s c)
    ++ map h (range_with_len (s + c) d)
split h s zero d = let e : zero + d ≡ d = omega arith in let f : s + zero ≡ s = omega arith in rw (e, f) refl
split h s (suc c) d =
    let e : suc c + d ≡ suc (c + d) = omega arith in
    let f : s + suc c ≡ s + 1 + c = omega arith in
    rw (e, f) (ap (λ ps. h s ∷ ps) (split h (s + 1) c d))

filter_split : (h : ℕ → Cell) (p : Cell → Bool) (s c d : ℕ) → filter p (map h (range_with_len s (c + d))) ≡ filter
    p (map h (range_with_len s c)) ++ filter p (map h (range_with_len (s + c) d))
filter_split h p s c d = ap (filter p) (split h s c d)
    ∙ filter-append p (map h (range_with_len s c)) (map h (range_with_len (s + c) d))

filter_between : (h : ℕ → Cell) (p : Cell → Bool) (a b n : ℕ) → a ≤ b → b ≤ n
    → ((m : ℕ) → m < n → p (h m) ≡ (leb a m && ltb m b))
    → filter p (map h (range_with_len 0 n)) ≡ map h (range_with_len a (b - a))
filter_between h p a b n some within is =
    let parts : n ≡ a + (b - a + (n - b)) = omega arith in
    let start : 0 + a ≡ a = omega arith in
    let before = filter_none h p 0 a (λ m _ less. is m (omega arith) ∙ grind (arith, nat_tests)) in
    let among = filter_all h p a (b - a) (λ m more less. is m (omega arith) ∙ grind (arith, nat_tests)) in
    let after = filter_none h p (a + (b - a)) (n - b)
    (λ m more less. is m (omega arith) ∙ grind (arith, nat_tests)) in
    ap (λ c. filter p (map h (range_with_len 0 c))) parts ∙ filter_split h p 0 a (b - a + (n - b))
    ∙ rw (start, before, filter_split h p a (b - a) (n - b), among, after)
    (append-nil (map h (range_with_len a (b - a))))

-- the lines of all cells, and those of a format
filter-flat_map : (p : Cell → Bool) (g : ℕ → List Cell) (ks : List ℕ) →
    filter p (flat_map g ks) ≡ flat_map (λ k. filter p (g k)) ks
filter-flat_map p g [] = refl
filter-flat_map p g (k ∷ ks) = filter-append p (g k) (flat_map g ks)
    ∙ ap (λ ps. filter p (g k) ++ ps) (filter-flat_map p g ks)

same_lines : (g h : ℕ → List Cell) (s c : ℕ) → ((k : ℕ) → k < s + c → g k ≡ h k) →
    flat_map g (range_with_len s c) ≡ flat_map h (range_with_len s c)
same_lines g h s zero same = refl
same_lines g h s (suc c) same = ap (λ ps. ps ++ flat_map g (range_with_len (s + 1) c)) (same s (omega arith))
    ∙ ap (λ ps. h s ++ ps) (same_lines g h (s + 1) c (λ k less. same k (omega arith)))

pub lines_within : (f : Format) (n k : ℕ) → k < n → (first_item f k ≤ end_item f n k) × (end_item f n k ≤ n)
lines_within FullMatrix n k less = (omega arith, omega arith)
lines_within _ n k less = (omega arith, omega arith)

kept_lines : (f : Format) (p : Cell → Bool) (n : ℕ)
    → ((k m : ℕ) → m < n → p (place_on f k m) ≡ (leb (first_item f k) m && ltb m (end_item f n k)))
    → filter p (flat_map (λ k. map (place_on f k) (range_with_len 0 n)) (range_with_len 0 n)) ≡ weight_lines f n 0 n
kept_lines f p n is =
    filter-flat_map p (λ k. map (place_on f k) (range_with_len 0 n)) (range_with_len 0 n)
    ∙ same_lines (λ k. filter p (map (place_on f k) (range_with_len 0 n)))
    (λ k. items f k (first_item f k) (end_item f n k)) 0 n (λ k less.
    let within = lines_within f n k (omega arith) in
    filter_between (place_on f k) p (first_item f k) (end_item f n k) n within.0 within.1 (is k))

-- the order consists of the cells line by line
pub order-lines : (f : Format) (n : ℕ) → order f n ≡ weight_lines f n 0 n
order-lines FullMatrix n =
    same_lines (λ i. map (λ j. place i j) (range_with_len 0 n)) (λ i. map (λ j. place i j) (range_with_len 0 (n - 0))) 0
    n (λ k less. ap (λ c. map (λ j. place k j) (range_with_len 0 c)) (omega arith))
order-lines UpperRow n = kept_lines UpperRow (λ p. ltb p.row p.column) n (λ k m less. grind (arith, nat_tests))
order-lines LowerRow n = kept_lines LowerRow (λ p. ltb p.column p.row) n (λ k m less. grind (arith, nat_tests))
order-lines UpperDiagRow n = kept_lines UpperDiagRow (λ p. leb p.row p.column) n (λ k m less. grind (arith, nat_tests))
order-lines LowerDiagRow n = kept_lines LowerDiagRow (λ p. leb p.column p.row) n (λ k m less. grind (arith, nat_tests))
order-lines UpperCol n = kept_lines UpperCol (λ p. ltb p.row p.column) n (λ k m less. grind (arith, nat_tests))
order-lines LowerCol n = kept_lines LowerCol (λ p. ltb p.column p.row) n (λ k m less. grind (arith, nat_tests))
order-lines UpperDiagCol n = kept_lines UpperDiagCol (λ p. leb p.row p.column) n (λ k m less. grind (arith, nat_tests))
order-lines LowerDiagCol n = kept_lines LowerDiagCol (λ p. leb p.column p.row) n (λ k m less. grind (arith, nat_tests))

pub order-lines_rest : (f : Format) (n : ℕ) → order f n ≡ weight_lines f n 0 (n - 0)
order-lines_rest f n = order-lines f n ∙ ap (weight_lines f n 0) (omega arith)
