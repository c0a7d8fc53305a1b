-- The entries of a matrix that a format contains, line by line (G. Reinelt, "TSPLIB 95", EDGE_WEIGHT_FORMAT).
use Rattle.std.specs.Prelude.{ℕ, Bool, true, false, List, nat_lt, nat_le, if◌then◌else◌, map, filter}
use Rattle.std.specs.List.{range_with_len}
use Rattle.tk_problem.specs.declared.weights.Format.{Format}
use Rattle.tk_problem.specs.declared.weights.Format.TheVariants as formats

-- whether a format contains the entry of row i and column j
abbrev pub has_entry : Format → ℕ → ℕ → Bool
has_entry formats.FullMatrix i j = true
has_entry formats.UpperRow i j = nat_lt i j
has_entry formats.LowerRow i j = nat_lt j i
has_entry formats.UpperDiagRow i j = nat_le i j
has_entry formats.LowerDiagRow i j = nat_le j i
has_entry formats.UpperCol i j = nat_lt i j
has_entry formats.LowerCol i j = nat_lt j i
has_entry formats.UpperDiagCol i j = nat_le i j
has_entry formats.LowerDiagCol i j = nat_le j i

-- whether the lines of a format are columns instead of rows
abbrev pub has_column_lines : Format → Bool
has_column_lines formats.UpperCol = true
has_column_lines formats.LowerCol = true
has_column_lines formats.UpperDiagCol = true
has_column_lines formats.LowerDiagCol = true
has_column_lines _ = false

-- the row and the column of position m in line k
abbrev pub entry_place : Format → ℕ → ℕ → ℕ × ℕ
entry_place f k m = if has_column_lines f then (m, k) else (k, m)

-- whether a format contains position m of line k
abbrev pub has_place : Format → ℕ → ℕ → Bool
has_place f k m = has_entry f (entry_place f k m).0 (entry_place f k m).1

abbrev pub on_line : ℕ → Format → ℕ → List ℕ
on_line n f k = filter (has_place f k) (range_with_len 1 n)

-- the rows and columns of the entries of line k, in their order
abbrev pub line_places : ℕ → Format → ℕ → List (ℕ × ℕ)
line_places n f k = map (entry_place f k) (on_line n f k)
