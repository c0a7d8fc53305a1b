-- How long a matrix text is at most.
use Rattle.std.proofs.Common.{ℕ, ◌+◌, ◌*◌, ◌^◌, ◌≤◌, List, [], ◌∷◌, ◌++◌, length, subst, arith, length-append}
use Rattle.std.proofs.lemmas.List.{length-map}
use Rattle.std.specs.Prelude.{map, flat_map, codes, decimal}
use Rattle.std.specs.List.{range_with_len, join_by}
use Rattle.std.proofs.lemmas.List.FromFn.{length-range_with_len}
use Rattle.std.proofs.lemmas.List.Sums.{length-filter, count_by-le-length}
use Rattle.tk_problem.specs.declared.limits.TheConstants.{TABLE_LIMIT}
use Rattle.tk_writers.proofs.Pieces.NumberLengths.{length_decimal, length_flat_map}
use Rattle.tk_writers.specs.FormatLines.{on_line, entry_place, has_place}
use Rattle.tk_problem.specs.WeightWords.{format_word}
use Rattle.tk_writers.specs.MatrixText.{number_line, matrix_line, matrix_head, matrix_text}
use Rattle.tk_problem.specs.declared.weights.Format.{Format}
use Rattle.tk_problem.specs.declared.weights.Format.TheVariants as formats

length_number_line : (xs : List ℕ) → length (number_line xs) ≤ length xs * 65
length_number_line [] = omega arith
length_number_line (x ∷ xs) =
    let rest = length_flat_map (λ y. codes " " ++ decimal y) 65 (λ y. omega (arith, length_decimal y)) xs in
    let first = length_decimal x in
    let parts = length-append (decimal x) (flat_map (λ y. codes " " ++ decimal y) xs) in
    let ends = length-append (join_by decimal (codes " ") (x ∷ xs)) (10 ∷ []) in
    omega arith

length_matrix_line : (n : ℕ) (table : ℕ → ℕ → ℕ) (f : Format) (k : ℕ) → length (matrix_line n table f k) ≤ n * 65
length_matrix_line n table f k =
    let few = count_by-le-length (has_place f k) (range_with_len 1 n) in
    let numbers : ℕ × ℕ → ℕ = λ p. table p.0 p.1 in
    let places = map (entry_place f k) (on_line n f k) in
    let count : length (map numbers places) ≤ n =
    simp length-map
    (omega (arith, few, length-filter (has_place f k) (range_with_len 1 n), length-range_with_len 1 n)) in
    let lines = length_number_line (map numbers places) in
    omega arith

length_format_word : (f : Format) → length (format_word f) ≤ 14
length_format_word formats.FullMatrix = omega arith
length_format_word _ = omega arith

pub length_matrix_head : (name : List ℕ) (n : ℕ) (f : Format) → length (matrix_head name n f) ≤ length name + 200
length_matrix_head name n f =
    let word = length_format_word f in
    let number = length_decimal n in
    simp length-append (omega arith)

pub length_matrix_text : (name : List ℕ) (n : ℕ) (table : ℕ → ℕ → ℕ) (f : Format) → length name ≤ 1024 →
    n ≤ TABLE_LIMIT → length (matrix_text name n table f) ≤ 2 ^ 63
length_matrix_text name n table f short few =
    let head = length_matrix_head name n f in
    let body = flat_map (matrix_line n table f) (range_with_len 1 n) in
    let lines = length_flat_map (matrix_line n table f) 325000 (λ k. omega (arith, length_matrix_line n table f k))
    (range_with_len 1 n) in
    let count = length-range_with_len 1 n in
    let size : length body ≤ n * 325000 = subst (λ m. length body ≤ m * 325000) count lines in
    omega (
      arith,
      size,
      length-append (matrix_head name n f) body,
      length-append (matrix_head name n f ++ body) (codes "EOF" ++ 10 ∷ []),
    )
