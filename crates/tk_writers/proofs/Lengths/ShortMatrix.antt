-- How long a matrix text is at most, whose numbers have at most 18 digits.
use Rattle.std.proofs.Common.{ℕ, ◌*◌, ◌≤◌, List, [], ◌∷◌, ◌++◌, length, ap, arith, length-append}
use Rattle.std.specs.Prelude.{flat_map, codes, decimal}
use Rattle.std.specs.List.{AllByRecursion, join_by, range_with_len}
use Rattle.tk_problem.specs.declared.limits.TheConstants.{TABLE_LIMIT, TEXT_LIMIT}
use Rattle.tk_problem.specs.declared.weights.Format.{Format}
use Rattle.tk_writers.specs.MatrixText.{matrix_head, matrix_line, matrix_text, number_line}
use Rattle.tk_writers.proofs.Lengths.MatrixLength.{length_matrix_head}
use Rattle.tk_writers.proofs.Written.WrittenLines.{ShortRows}
use Rattle.tk_writers.proofs.Written.WrittenNumbers.{AllShort, short_decimal}
use Rattle.tk_writers.proofs.Written.WrittenPlaces.{matrix_lines, rows_of, count_rows, rows-narrow}

-- a number with the space before it
length_spaced : (xs : List ℕ) → AllShort xs → length (flat_map (λ y. codes " " ++ decimal y) xs) ≤ length xs * 19
length_spaced [] small = omega arith
length_spaced (x ∷ xs) small =
    omega (
      arith,
      short_decimal x small.0,
      length_spaced xs small.1,
      length-append (codes " " ++ decimal x) (flat_map (λ y. codes " " ++ decimal y) xs),
    )

length_short_line : (xs : List ℕ) → AllShort xs → length (number_line xs) ≤ length xs * 19
length_short_line [] small = omega arith
length_short_line (x ∷ xs) small =
    let first = short_decimal x small.0 in
    let rest = length_spaced xs small.1 in
    let parts = length-append (decimal x) (flat_map (λ y. codes " " ++ decimal y) xs) in
    let ends = length-append (join_by decimal (codes " ") (x ∷ xs)) (10 ∷ []) in
    omega arith

length_short_rows : (rows : List (List ℕ)) → ShortRows rows → AllByRecursion (λ row. length row ≤ TABLE_LIMIT) rows →
    length (flat_map number_line rows) ≤ length rows * 95000
length_short_rows [] small narrow = omega arith
length_short_rows (r ∷ rows) small narrow =
    omega (
      arith,
      length_short_line r small.0,
      narrow.0,
      length_short_rows rows small.1 narrow.1,
      length-append (number_line r) (flat_map number_line rows),
    )

pub length_short_matrix : (name : List ℕ) (n : ℕ) (table : ℕ → ℕ → ℕ) (f : Format) → length name ≤ 1024 →
    n ≤ TABLE_LIMIT → ShortRows (rows_of n table f) → length (matrix_text name n table f) ≤ TEXT_LIMIT
length_short_matrix name n table f short few small =
    let head = length_matrix_head name n f in
    let body = flat_map (matrix_line n table f) (range_with_len 1 n) in
    let same = ap length (matrix_lines n table f) in
    let rows = length_short_rows (rows_of n table f) small (rows-narrow n table f TABLE_LIMIT few) in
    let count = count_rows n table f in
    omega (
      arith,
      length-append (matrix_head name n f) body,
      length-append (matrix_head name n f ++ body) (codes "EOF" ++ 10 ∷ []),
    )
