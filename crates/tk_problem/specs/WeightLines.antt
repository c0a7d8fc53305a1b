-- The order of explicit weights, line by line: a line is a row or a column, depending on the format.
use Rattle.std.specs.Prelude.{ℕ, ◌+◌, ◌-◌, List, ◌++◌, map, flat_map}
use Rattle.std.specs.List.{range_with_len}
use Rattle.tk_problem.specs.declared.cell.Cell.{Cell}
use Rattle.tk_problem.specs.declared.weights.Format.{Format}
use Rattle.tk_problem.specs.declared.weights.Format.TheVariants.{UpperRow, LowerRow, UpperDiagRow, LowerDiagRow}
use Rattle.tk_problem.specs.declared.weights.Format.TheVariants.{UpperCol, LowerCol, UpperDiagCol, LowerDiagCol}
use Rattle.tk_problem.specs.WeightOrder.{place}

-- the first item of a line in which the format has an entry, and the item after the last one
abbrev pub first_item : Format → ℕ → ℕ
first_item UpperRow line = line + 1
first_item LowerCol line = line + 1
first_item UpperDiagRow line = line
first_item LowerDiagCol line = line
first_item _ line = 0

abbrev pub end_item : Format → ℕ → ℕ → ℕ
end_item LowerRow n line = line
end_item UpperCol n line = line
end_item LowerDiagRow n line = line + 1
end_item UpperDiagCol n line = line + 1
end_item _ n line = n

-- the cell of an item of a line
abbrev pub place_on : Format → ℕ → ℕ → Cell
place_on UpperCol line item = place item line
place_on LowerCol line item = place item line
place_on UpperDiagCol line item = place item line
place_on LowerDiagCol line item = place item line
place_on _ line item = place line item

-- the cells of a line from an item on, up to but not including `end`
abbrev pub items : Format → ℕ → ℕ → ℕ → List Cell
items f line from end = map (place_on f line) (range_with_len from (end - from))

-- the cells of `count` lines from a line on
abbrev pub weight_lines : Format → ℕ → ℕ → ℕ → List Cell
weight_lines f n from count =
    flat_map (λ line. items f line (first_item f line) (end_item f n line)) (range_with_len from count)

-- the cells of a line from an item on, up to but not including `end`, and those of all lines after it
abbrev pub places_from : Format → ℕ → ℕ → ℕ → ℕ → List Cell
places_from f n line item end = items f line item end ++ weight_lines f n (line + 1) (n - (line + 1))
