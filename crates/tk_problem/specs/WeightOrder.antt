-- The order in which explicit weights are written, and the weight of two cities.
use Rattle.std.specs.Prelude.{ℕ, ◌+◌, ◌-◌, ◌*◌, ◌/◌, Bool, ◌&&◌, ◌||◌, ◌==◌, nat_lt, nat_le, min, max, List, map}
use Rattle.std.specs.Prelude.{flat_map, zip, filter, if◌then◌else◌, fold}
use Rattle.std.specs.List.{range_with_len}
use Rattle.tk_problem.specs.declared.cell.Cell.{Cell}
use Rattle.tk_problem.specs.declared.weights.Format.{Format}
use Rattle.tk_problem.specs.declared.weights.Format.TheVariants.{FullMatrix, UpperRow, LowerRow, UpperDiagRow}
use Rattle.tk_problem.specs.declared.weights.Format.TheVariants.{LowerDiagRow, UpperCol, LowerCol, UpperDiagCol}
use Rattle.tk_problem.specs.declared.weights.Format.TheVariants.{LowerDiagCol}

abbrev pub place : ℕ → ℕ → Cell
place i j = record { row = i; column = j }

-- all cells of n rows and columns, row by row and column by column
abbrev pub by_rows : ℕ → List Cell
by_rows n = flat_map (λ i. map (λ j. place i j) (range_with_len 0 n)) (range_with_len 0 n)

abbrev pub by_columns : ℕ → List Cell
by_columns n = flat_map (λ j. map (λ i. place i j) (range_with_len 0 n)) (range_with_len 0 n)

-- the cells in which a format has entries, in the order in which these are written
abbrev pub order : Format → ℕ → List Cell
order FullMatrix n = by_rows n
order UpperRow n = filter (λ p. nat_lt p.row p.column) (by_rows n)
order LowerRow n = filter (λ p. nat_lt p.column p.row) (by_rows n)
order UpperDiagRow n = filter (λ p. nat_le p.row p.column) (by_rows n)
order LowerDiagRow n = filter (λ p. nat_le p.column p.row) (by_rows n)
order UpperCol n = filter (λ p. nat_lt p.row p.column) (by_columns n)
order LowerCol n = filter (λ p. nat_lt p.column p.row) (by_columns n)
order UpperDiagCol n = filter (λ p. nat_le p.row p.column) (by_columns n)
order LowerDiagCol n = filter (λ p. nat_le p.column p.row) (by_columns n)

-- the number of entries of a format, and how often it contains each pair
abbrev pub entry_count : Format → ℕ → ℕ
entry_count FullMatrix n = n * n
entry_count UpperRow n = n * (n - 1) / 2
entry_count LowerRow n = n * (n - 1) / 2
entry_count UpperCol n = n * (n - 1) / 2
entry_count LowerCol n = n * (n - 1) / 2
entry_count _ n = n * (n + 1) / 2

abbrev pub times_written : Format → ℕ
times_written FullMatrix = 2
times_written _ = 1

-- whether a cell is that of i and j, in either order
abbrev pub is_of : ℕ → ℕ → Cell → Bool
is_of i j p = (p.row == i && p.column == j) || (p.row == j && p.column == i)

-- the weight of i and j: the last one that is written in one of their cells, or 0
abbrev pub weight_of : ℕ → ℕ → List (Cell × ℕ) → ℕ
weight_of i j entries = fold (λ w e. if is_of i j e.0 then e.1 else w) 0 entries

-- the weights of all pairs, row by row below the diagonal
abbrev pub lower_of : ℕ → List (Cell × ℕ) → List ℕ
lower_of n entries = map (λ p. weight_of p.row p.column entries) (order LowerRow n)

-- the first entries of a format: its first cells, each with its weight
abbrev pub entries : Format → ℕ → List ℕ → List (Cell × ℕ)
entries f n ws = zip (order f n) ws

-- the index of the pair of a cell among all pairs, row by row below the diagonal
abbrev pub lower_index : Cell → ℕ
lower_index p = max p.row p.column * (max p.row p.column - 1) / 2 + min p.row p.column
