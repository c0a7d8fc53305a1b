-- The text of a TSP with explicit weights (G. Reinelt, "TSPLIB 95").
use Rattle.std.specs.Prelude.{◌≡◌, ℕ, ◌≤◌, ℤ, pos, List, [], ◌∷◌, ◌++◌, codes, decimal, map, flat_map}
use Rattle.std.specs.List.{range_with_len}
use Rattle.tk_writers.specs.FormatLines.{line_places}
use Rattle.tk_writers.specs.Written.{line, spaced_numbers}
use Rattle.tk_problem.specs.declared.weights.Format.{Format}
use Rattle.tk_problem.specs.WeightWords.{format_word}

-- a line of numbers, separated by single spaces; without numbers there is no line
abbrev pub number_line : List ℕ → List ℕ
number_line [] = []
number_line (x ∷ xs) = line (spaced_numbers (x ∷ xs))

abbrev pub matrix_head : List ℕ → ℕ → Format → List ℕ
matrix_head name n f = flat_map line
    ((codes "NAME : " ++ name)
    ∷ codes "TYPE : TSP"
    ∷ (codes "DIMENSION : " ++ decimal n)
    ∷ codes "EDGE_WEIGHT_TYPE : EXPLICIT"
    ∷ (codes "EDGE_WEIGHT_FORMAT : " ++ format_word f)
    ∷ codes "EDGE_WEIGHT_SECTION" ∷ [])

-- the line of row or column k, with the numbers of the table
abbrev pub matrix_line : ℕ → (ℕ → ℕ → ℕ) → Format → ℕ → List ℕ
matrix_line n table f k = number_line (map (λ p. table p.0 p.1) (line_places n f k))

abbrev pub matrix_text : List ℕ → ℕ → (ℕ → ℕ → ℕ) → Format → List ℕ
matrix_text name n table f =
    matrix_head name n f
    ++ flat_map (matrix_line n table f) (range_with_len 1 n)
    ++ line (codes "EOF")

-- a function can be called with any two of the cities 1 to n, and returns the entry of the table
pub record GivesTable (pre : ℕ → ℕ → Type 0) (post : ℕ → ℕ → ℤ → Type 0) (n : ℕ) (table : ℕ → ℕ → ℕ) : Type 0 where
  pub calls : (a b : ℕ) → 1 ≤ a → a ≤ n → 1 ≤ b → b ≤ n → pre a b
  pub gives : (a b : ℕ) (r : ℤ) → 1 ≤ a → a ≤ n → 1 ≤ b → b ≤ n → post a b r → r ≡ pos (table a b)

-- P is true of each table whose entries the function returns
abbrev pub IfGives : (ℕ → ℕ → Type 0) → (ℕ → ℕ → ℤ → Type 0) → ℕ → ((ℕ → ℕ → ℕ) → Type 0) → Type 0
IfGives pre post n P = (table : ℕ → ℕ → ℕ) → GivesTable pre post n table → P table
