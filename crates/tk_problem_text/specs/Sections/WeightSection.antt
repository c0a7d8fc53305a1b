-- The section of explicit weights.
use Rattle.std.specs.Prelude.{ℕ, suc, Bool, false, true, not, ◌&&◌, ◌==◌, nat_lt, List, ◌∷◌, [], length, map, is_none}
use Rattle.std.specs.Prelude.{slice_index_or}
use Rattle.tk_problem.specs.declared.limits.TheConstants.{DISTANCE_LIMIT}
use Rattle.tk_words.specs.declared.fault.TextKind.{TextKind}
use Rattle.tk_words.specs.declared.fault.TextKind.TheVariants as kinds
use Rattle.tk_problem.specs.declared.cell.Cell.{Cell}
use Rattle.tk_problem.specs.declared.weights.Format.{Format}
use Rattle.tk_problem.specs.declared.weights.Format.TheVariants.{FullMatrix}
use Rattle.tk_words.specs.Lex.{Token, integer}
use Rattle.tk_words.specs.Entry.{in_range}
use Rattle.tk_problem_text.specs.Sections.Rows.{number_in}
use Rattle.tk_problem.specs.WeightOrder as Order
use Rattle.tk_problem.specs.WeightOrder.{place, order, weight_of, entries}

-- the number of weights of a format
abbrev pub weight_count : ℕ → Format → ℕ
weight_count n f = length (order f n)

-- the cell of the entry after these tokens
abbrev pub place_behind : ℕ → Format → List Token → Cell
place_behind n f before = slice_index_or (order f n) (length before) (place 0 0)

abbrev pub weights_in : List Token → List ℕ
weights_in toks = map number_in toks

abbrev pub is_full : Format → Bool
is_full FullMatrix = true
is_full _ = false

-- the tests of an entry: an integer; off the diagonal, from 0 to 4·10^9; below the diagonal of a full matrix, equal to
-- the weight above it
abbrev pub weight_tests : ℕ → Format → List Token → Token → List (Bool × TextKind)
weight_tests n f before t =
    let p = place_behind n f before in
    (is_none (integer t.bytes), kinds.BadNumber)
    ∷ (not (p.row == p.column) && not (in_range 0 DISTANCE_LIMIT (integer t.bytes)), kinds.OutOfLimit)
    ∷ (
      is_full f && nat_lt p.column p.row
          && not (number_in t == weight_of p.row p.column (entries f n (weights_in before))),
      kinds.NotSymmetric (suc p.column) (suc p.row),
    ) ∷ []

-- the weights below the diagonal, row by row
abbrev pub lower_weights : ℕ → Format → List Token → List ℕ
lower_weights n f toks = Order.lower_of n (entries f n (weights_in toks))
