-- The depot section: one node, and the end of the list.
use Rattle.std.specs.Prelude.{ℕ, not, ◌||◌, false, List, [], ◌∷◌, Option, is_none}
use Rattle.tk_words.specs.declared.fault.TextKind.TheVariants as kinds
use Rattle.tk_words.specs.Lex.{Token, is_empty, integer}
use Rattle.tk_lines.specs.Pieces.{Extent, Stop, After}
use Rattle.tk_words.specs.Entry.{in_range}
use Rattle.tk_lines.specs.Lists.{with_one, list_extent, list_entries, trailing_stop}
use Rattle.tk_problem_text.specs.Sections.FixedSections.{TokenTests, fixed_end}

-- the tests of a node: an integer from 1 to n, with no token before it
abbrev pub depot_tests : ℕ → TokenTests
depot_tests n before t = (is_none (integer t.bytes), kinds.BadNumber)
    ∷ (not (in_range 1 n (integer t.bytes)) || not (is_empty before), kinds.BadDepot) ∷ []

-- the first token counts as the node, whatever it is; after it, -1 or EOF ends the list
abbrev pub depot_extent : List Token → Extent
depot_extent [] = record { count = 0; closed = false; at_eof = false }
depot_extent (t ∷ ts) = with_one (list_extent ts)

abbrev pub depot_entries : List Token → List Token
depot_entries [] = []
depot_entries (t ∷ ts) = t ∷ list_entries ts

-- the stop at the end of the list: Truncated if it ends without a node, TrailingData if more data is on its last line
abbrev pub depot_end : List Token → After → Option Stop
depot_end [] after = fixed_end after
depot_end (t ∷ ts) after = trailing_stop after
