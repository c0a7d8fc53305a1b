-- Sections of rows: each row has a node and its data.
use Rattle.std.specs.Prelude.{ℕ, ◌%◌, Bool, false, not, ◌||◌, ◌==◌, nat_eq, nat_le, List, [], ◌∷◌, length, map}
use Rattle.std.specs.Prelude.{Option, Some, None, ℤ, pos, if◌then◌else◌, is_none, unwrap_or}
use Rattle.std.specs.Int.RustNames.{unsigned_abs}
use Rattle.std.specs.List.{range_with_len, list_any}
use Rattle.tk_problem.specs.declared.limits.TheConstants.{CAPACITY_LIMIT}
use Rattle.tk_words.specs.declared.fault.TextKind.{TextKind}
use Rattle.tk_words.specs.declared.fault.TextKind.TheVariants as kinds
use Rattle.tk_problem.specs.declared.point.Point.{Point}
use Rattle.tk_words.specs.Lex.{Token, integer}
use Rattle.tk_words.specs.Decimal.{decimal_of}
use Rattle.tk_problem.specs.Places.{origin, greatest_coordinate}
use Rattle.tk_words.specs.Entry.{in_range, number_tests, natural_or_zero}

-- the number that a token spells, or 0
abbrev pub number_in : Token → ℕ
number_in t = natural_or_zero (integer t.bytes)

abbrev pub coordinate_in : Token → ℤ
coordinate_in t = unwrap_or (decimal_of t.bytes) (pos 0)

-- the node of each row, with its coordinates or its demand; tokens after the last complete row do not count
unfoldable pub place_rows : List Token → List (ℕ × Point)
place_rows [] = []
place_rows (a ∷ []) = []
place_rows (a ∷ x ∷ []) = []
place_rows (a ∷ x ∷ y ∷ ts) = (number_in a, record { x = coordinate_in x; y = coordinate_in y }) ∷ place_rows ts

unfoldable pub demand_rows : List Token → List (ℕ × ℕ)
demand_rows [] = []
demand_rows (a ∷ []) = []
demand_rows (a ∷ q ∷ ts) = (number_in a, number_in q) ∷ demand_rows ts

abbrev pub nodes_in : {A : Type 0} → List (ℕ × A) → List ℕ
nodes_in rows = map (λ r. r.0) rows

-- the data in the first row of a node, or `without` if it has no row
abbrev pub row_of : {A : Type 0} → A → List (ℕ × A) → ℕ → A
row_of without [] c = without
row_of without (r ∷ rows) c = let rest = row_of without rows c in if c == r.0 then r.1 else rest

-- the data of each node 1..n
abbrev pub by_node : {A : Type 0} → A → ℕ → List (ℕ × A) → List A
by_node without n rows = map (row_of without rows) (range_with_len 1 n)

abbrev pub row_places : ℕ → List Token → List Point
row_places n toks = by_node origin n (place_rows toks)

abbrev pub demands_of : ℕ → List Token → List ℕ
demands_of n toks = by_node 0 n (demand_rows toks)

-- ---- the tests of a token, given the tokens before it

abbrev pub is_among : ℕ → List ℕ → Bool
is_among c nodes = list_any (nat_eq c) nodes

-- the tests of a node: an integer from 1 to n that is not one of the nodes before
abbrev pub node_tests : ℕ → List ℕ → Token → List (Bool × TextKind)
node_tests n before t =
    (is_none (integer t.bytes), kinds.BadNumber)
    ∷ (not (in_range 1 n (integer t.bytes)) || is_among (number_in t) before, kinds.BadNode) ∷ []

-- a coordinate whose magnitude is at most 10^9, given in billionths
abbrev pub is_near : Option ℤ → Bool
is_near None = false
is_near (Some z) = nat_le (unsigned_abs z) greatest_coordinate

abbrev pub coordinate_tests : Token → List (Bool × TextKind)
coordinate_tests t =
    (is_none (decimal_of t.bytes), kinds.BadNumber) ∷ (not (is_near (decimal_of t.bytes)), kinds.OutOfLimit) ∷ []

-- the tests of rows with a node, x and y
abbrev pub place_tests : ℕ → List Token → Token → List (Bool × TextKind)
place_tests n before t =
    if length before % 3 == 0 then node_tests n (nodes_in (place_rows before)) t else coordinate_tests t

-- the tests of rows with a node and its demand
abbrev pub demand_tests : ℕ → List Token → Token → List (Bool × TextKind)
demand_tests n before t = if length before % 2 == 0 then node_tests n (nodes_in (demand_rows before)) t
    else number_tests 0 CAPACITY_LIMIT t.bytes
