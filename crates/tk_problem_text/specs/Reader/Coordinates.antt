-- The state of the reader of coordinates.
use Rattle.std.specs.Prelude.{◌≡◌, ◌<◌, ◌*◌, ◌≤◌, ℕ, List, [], ◌∷◌, ◌++◌, length, Some}
use Rattle.std.specs.Int.RustNames.{unsigned_abs}
use Rattle.tk_problem.specs.Places.{greatest_coordinate}
use Rattle.tk_problem.specs.declared.point.Point.{Point}
use Rattle.tk_problem_text.specs.declared.sections.coordinates.Wanted.{Wanted}
use Rattle.tk_problem_text.specs.declared.sections.coordinates.Wanted.TheVariants as wants
use Rattle.tk_words.specs.Decimal.{decimal_of}
use Rattle.tk_words.specs.Lex.{Token}
use Rattle.tk_problem_text.specs.Reader.Nodes.{Named, HasNamed, HasNext}
use Rattle.tk_problem_text.specs.Sections.Rows.{place_rows, nodes_in, row_places}

-- the coordinates of the nodes, the nodes that have been named, and what is expected next
pub record Placing : Type 0 where
  pub places : List Point
  pub nodes : Named
  pub wanted : Wanted

-- the index is one of a node, and the coordinate is within its limit
abbrev pub IsWantedWithin : ℕ → Wanted → Type 0
IsWantedWithin size wants.Node = Unit {0}
IsWantedWithin size (wants.X index) = index < size
IsWantedWithin size (wants.Y index x) = (index < size) × (unsigned_abs x ≤ greatest_coordinate)

pub record IsPlacing (places : List Point) (nodes : Named) (wanted : Wanted) : Type 0 where
  pub sizes : length nodes.flags ≡ length places
  pub within : IsWantedWithin (length places) wanted

-- the tokens of an incomplete row, after rows that name these nodes
abbrev pub HasPart : ℕ → Named → List ℕ → Wanted → List Token → Type 0
HasPart n s nodes wants.Node part = (part ≡ []) × HasNamed n s nodes
HasPart n s nodes (wants.X index) part = (a : Token) × (part ≡ a ∷ []) × HasNext n s nodes a index
HasPart n s nodes (wants.Y index x) part =
    (a b : Token) × (part ≡ a ∷ b ∷ []) × HasNext n s nodes a index × (decimal_of b.bytes ≡ Some x)

-- the reader has taken these tokens of the rows of n nodes: complete rows, and a part of one
pub record HasPlaces (n : ℕ) (s : Placing) (toks : List Token) : Type 0 where
  pub rows : List Token
  pub part : List Token
  pub are : toks ≡ rows ++ part
  pub whole : length rows ≡ 3 * length (place_rows rows)
  pub places : s.places ≡ row_places n rows
  pub begun : HasPart n s.nodes (nodes_in (place_rows rows)) s.wanted part
