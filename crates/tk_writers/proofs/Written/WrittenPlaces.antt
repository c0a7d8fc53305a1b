-- The numbers of a matrix text, by the order of its format.
use Rattle.std.proofs.Common.{◌≡◌, ℕ, zero, suc, ◌+◌, ◌-◌, ◌<◌, ◌≤◌, List, [], ◌∷◌, ◌++◌, length, map, refl, sym, ap}
use Rattle.std.proofs.Common.{◌∙◌, arith}
use Rattle.std.proofs.lemmas.List.{length-map, map-append}
use Rattle.std.proofs.lemmas.Simd.{map-map}
use Rattle.std.proofs.lemmas.List.Folds.{flat_map-map}
use Rattle.std.proofs.lemmas.List.FromFn.{length-range_with_len}
use Rattle.std.specs.Prelude.{flat_map}
use Rattle.std.specs.List.{AllByRecursion, range_with_len}
use Rattle.tk_problem.specs.declared.cell.Cell.{Cell}
use Rattle.tk_problem.specs.declared.weights.Format.{Format}
use Rattle.tk_problem.specs.declared.weights.Format.TheVariants as formats
use Rattle.tk_writers.specs.FormatLines.{line_places, on_line}
use Rattle.tk_writers.specs.FormatLines as Written
use Rattle.tk_writers.specs.MatrixText.{matrix_line, number_line}
use Rattle.tk_writers.specs.ReadBack.{lower_triangle}
use Rattle.tk_problem.specs.WeightOrder.{order, place}
use Rattle.tk_problem.specs.WeightLines.{first_item, end_item, place_on, items}
use Rattle.tk_writers.proofs.MatrixLines.{on_line-all, on_line-from_k, on_line-behind_k, on_line-to_k, on_line-before_k}
use Rattle.tk_problem.proofs.WeightLines.{order-lines}
use Rattle.tk_writers.proofs.Written.WrittenNumbers.{IsShort, AllShort}
use Rattle.tk_writers.proofs.Written.WrittenLines.{in_rows, ShortRows}

-- a table at a place, whose rows and columns count from 0
abbrev pub at_place : (ℕ → ℕ → ℕ) → Cell → ℕ
at_place table p = table (suc p.row) (suc p.column)

same_range : (xs : List ℕ) (a b c d : ℕ) → xs ≡ range_with_len a c → a ≡ b → c ≡ d → xs ≡ range_with_len b d
same_range xs a b c d is start count = is ∙ ap (λ s. range_with_len s c) start ∙ ap (λ l. range_with_len b l) count

-- the places of a line, counted from 0
on_line-items : (f : Format) (n k : ℕ) → k < n →
    on_line n f (suc k) ≡ range_with_len (suc (first_item f k)) (end_item f n k - first_item f k)
on_line-items formats.FullMatrix n k h = same_range _ _ _ _ _ (on_line-all n (suc k) formats.FullMatrix (λ m. refl))
    refl (omega arith)
on_line-items formats.UpperRow n k h =
    same_range _ _ _ _ _ (on_line-behind_k n (suc k) formats.UpperRow (λ m. refl) (omega arith) h) (omega arith)
    (omega arith)
on_line-items formats.LowerRow n k h =
    same_range _ _ _ _ _ (on_line-before_k n (suc k) formats.LowerRow (λ m. refl) (omega arith) h) refl (omega arith)
on_line-items formats.UpperDiagRow n k h =
    same_range _ _ _ _ _ (on_line-from_k n (suc k) formats.UpperDiagRow (λ m. refl) (omega arith) h) refl (omega arith)
on_line-items formats.LowerDiagRow n k h =
    same_range _ _ _ _ _ (on_line-to_k n (suc k) formats.LowerDiagRow (λ m. refl) (omega arith) h) refl (omega arith)
on_line-items formats.UpperCol n k h =
    same_range _ _ _ _ _ (on_line-before_k n (suc k) formats.UpperCol (λ m. refl) (omega arith) h) refl (omega arith)
on_line-items formats.LowerCol n k h =
    same_range _ _ _ _ _ (on_line-behind_k n (suc k) formats.LowerCol (λ m. refl) (omega arith) h) (omega arith)
    (omega arith)
on_line-items formats.UpperDiagCol n k h =
    same_range _ _ _ _ _ (on_line-to_k n (suc k) formats.UpperDiagCol (λ m. refl) (omega arith) h) refl (omega arith)
on_line-items formats.LowerDiagCol n k h =
    same_range _ _ _ _ _ (on_line-from_k n (suc k) formats.LowerDiagCol (λ m. refl) (omega arith) h) refl (omega arith)

value-same : (f : Format) (table : ℕ → ℕ → ℕ) (k m : ℕ) →
    table (Written.entry_place f (suc k) (suc m)).0 (Written.entry_place f (suc k) (suc m)).1 ≡ at_place table
    (place_on f k m)
value-same formats.FullMatrix table k m = refl
value-same _ table k m = refl

-- items of two ranges that agree one by one, and lines of such
same_items : {X : Type 0} (g h : ℕ → X) (s c : ℕ) → ((k : ℕ) → g (suc k) ≡ h k) →
    map g (range_with_len (suc s) c) ≡ map h (range_with_len s c)
same_items g h s zero same = refl
same_items g h s (suc c) same =
    let next : suc s + 1 ≡ suc (s + 1) = omega arith in
    rw (same s, next) (ap (λ xs. h s ∷ xs) (same_items g h (s + 1) c same))

same_lines : (g h : ℕ → List ℕ) (n s c : ℕ) → s + c ≤ n → ((k : ℕ) → k < n → g (suc k) ≡ h k) →
    flat_map g (range_with_len (suc s) c) ≡ flat_map h (range_with_len s c)
same_lines g h n s zero within same = refl
same_lines g h n s (suc c) within same =
    let next : suc s + 1 ≡ suc (s + 1) = omega arith in
    rw (same s (omega arith), next) (ap (λ ls. h s ++ ls) (same_lines g h n (s + 1) c (omega arith) same))

-- the numbers of a line, and of all lines
abbrev row_values : ℕ → (ℕ → ℕ → ℕ) → Format → ℕ → List ℕ
row_values n table f k = map (at_place table) (items f k (first_item f k) (end_item f n k))

abbrev pub rows_of : ℕ → (ℕ → ℕ → ℕ) → Format → List (List ℕ)
rows_of n table f = map (row_values n table f) (range_with_len 0 n)

line_values : (f : Format) (n : ℕ) (table : ℕ → ℕ → ℕ) (k : ℕ) → k < n →
    map (λ p. table p.0 p.1) (line_places n f (suc k)) ≡ row_values n table f k
line_values f n table k h =
    map-map (λ p. table p.0 p.1) (Written.entry_place f (suc k)) (on_line n f (suc k))
    ∙ ap (map (λ m. table (Written.entry_place f (suc k) m).0 (Written.entry_place f (suc k) m).1))
    (on_line-items f n k h)
    ∙ same_items _ (λ m. at_place table (place_on f k m)) (first_item f k) (end_item f n k - first_item f k)
    (value-same f table k)
    ∙ sym (map-map (at_place table) (place_on f k) (range_with_len (first_item f k) (end_item f n k - first_item f k)))

pub matrix_lines : (n : ℕ) (table : ℕ → ℕ → ℕ) (f : Format) →
    flat_map (matrix_line n table f) (range_with_len 1 n) ≡ flat_map number_line (rows_of n table f)
matrix_lines n table f =
    same_lines (matrix_line n table f) (λ k. number_line (row_values n table f k)) n 0 n (omega arith)
    (λ k h. ap number_line (line_values f n table k h))
    ∙ sym (flat_map-map number_line (row_values n table f) (range_with_len 0 n))

in_rows-map : (n : ℕ) (table : ℕ → ℕ → ℕ) (f : Format) (ks : List ℕ)
    → in_rows (map (row_values n table f) ks) ≡ map (at_place table)
    (flat_map (λ k. items f k (first_item f k) (end_item f n k)) ks)
in_rows-map n table f [] = refl
in_rows-map n table f (k ∷ ks) =
    ap (λ vs. row_values n table f k ++ vs) (in_rows-map n table f ks)
    ∙ sym
    (map-append (at_place table) (items f k (first_item f k) (end_item f n k))
    (flat_map (λ k. items f k (first_item f k) (end_item f n k)) ks))

-- all numbers are those of the order
pub rows-order : (n : ℕ) (table : ℕ → ℕ → ℕ) (f : Format) →
    in_rows (rows_of n table f) ≡ map (at_place table) (order f n)
rows-order n table f = in_rows-map n table f (range_with_len 0 n) ∙ ap (map (at_place table)) (sym (order-lines f n))

-- the triangle below the diagonal is what LOWER_ROW lists
pub triangle-order : (n : ℕ) (table : ℕ → ℕ → ℕ) →
    lower_triangle n table ≡ map (at_place table) (order formats.LowerRow n)
triangle-order n table =
    same_lines (λ a. map (table a) (range_with_len 1 (a - 1))) (row_values n table formats.LowerRow) n 0 n (omega arith)
    (λ k h. ap (λ c. map (table (suc k)) (range_with_len 1 c)) (omega arith)
    ∙ same_items (table (suc k)) (λ m. at_place table (place k m)) 0 (k - 0) (λ m. refl)
    ∙ sym (map-map (at_place table) (place k) (range_with_len 0 (k - 0))))
    ∙ sym (flat_map-map (λ xs. xs) (row_values n table formats.LowerRow) (range_with_len 0 n))
    ∙ rows-order n table formats.LowerRow

-- ---- how many numbers

end_item-le : (f : Format) (n k : ℕ) → k < n → end_item f n k ≤ n
end_item-le formats.FullMatrix n k h = omega arith
end_item-le _ n k h = omega arith

row-narrow : (n : ℕ) (table : ℕ → ℕ → ℕ) (f : Format) (k : ℕ) → k < n → length (row_values n table f k) ≤ n
row-narrow n table f k h =
    let from : ℕ = first_item f k in
    let count : ℕ = end_item f n k - first_item f k in
    omega (
      arith,
      end_item-le f n k h,
      length-map (map (place_on f k) (range_with_len from count)) (at_place table),
      length-map (range_with_len from count) (place_on f k),
      length-range_with_len from count,
    )

-- what holds of each row
all_rows : (P : List ℕ → Type 0) (n : ℕ) (table : ℕ → ℕ → ℕ) (f : Format) (s c : ℕ) → s + c ≤ n →
    ((k : ℕ) → k < n → P (row_values n table f k)) → AllByRecursion P (map (row_values n table f) (range_with_len s c))
all_rows P n table f s zero within each = tt
all_rows P n table f s (suc c) within each =
    (each s (omega arith), all_rows P n table f (s + 1) c (omega arith) each)

pub rows-narrow : (n : ℕ) (table : ℕ → ℕ → ℕ) (f : Format) (most : ℕ) → n ≤ most →
    AllByRecursion (λ row. length row ≤ most) (rows_of n table f)
rows-narrow n table f most few =
    all_rows _ n table f 0 n (omega arith) (λ k h. omega (arith, row-narrow n table f k h))

pub count_rows : (n : ℕ) (table : ℕ → ℕ → ℕ) (f : Format) → length (rows_of n table f) ≡ n
count_rows n table f = length-map (range_with_len 0 n) (row_values n table f) ∙ length-range_with_len 0 n

-- ---- numbers that are short

module _ (n : ℕ) (table : ℕ → ℕ → ℕ) (short : (a b : ℕ) → 1 ≤ a → a ≤ n → 1 ≤ b → b ≤ n → IsShort (table a b)) where
  value-short : (f : Format) (k m : ℕ) → k < n → m < n → IsShort (at_place table (place_on f k m))
  value-short formats.UpperCol k m h l = short (suc m) (suc k) (omega arith) l (omega arith) h
  value-short formats.LowerCol k m h l = short (suc m) (suc k) (omega arith) l (omega arith) h
  value-short formats.UpperDiagCol k m h l = short (suc m) (suc k) (omega arith) l (omega arith) h
  value-short formats.LowerDiagCol k m h l = short (suc m) (suc k) (omega arith) l (omega arith) h
  value-short _ k m h l = short (suc k) (suc m) (omega arith) h (omega arith) l

  row-short : (f : Format) (k a c : ℕ) → k < n → a + c ≤ n →
      AllShort (map (at_place table) (map (place_on f k) (range_with_len a c)))
  row-short f k a zero h l = tt
  row-short f k a (suc c) h l = (value-short f k a h (omega arith), row-short f k (a + 1) c h (omega arith))

  -- a line's items end by n, where it has some
  items-short : (f : Format) (k : ℕ) → k < n → AllShort (row_values n table f k)
  items-short f k h = by_count (end_item f n k - first_item f k) refl
    where
      by_count : (c : ℕ) → end_item f n k - first_item f k ≡ c →
          AllShort (map (at_place table) (map (place_on f k) (range_with_len (first_item f k) c)))
      by_count zero e = tt
      by_count (suc c) e = row-short f k (first_item f k) (suc c) h (omega (arith, e, end_item-le f n k h))

  pub rows-short : (f : Format) → ShortRows (rows_of n table f)
  rows-short f = all_rows AllShort n table f 0 n (omega arith) (items-short f)
