-- Examples of words, values, lines and tokens.
use Rattle.std.specs.Prelude.{ℕ, Bool, true, false, List, [], ◌∷◌, Option, Some, None, codes}
use Rattle.tk_text.specs.declared.Keyword.{Keyword}
use Rattle.tk_text.specs.declared.Keyword.TheVariants as words
use Rattle.tk_text.specs.Lex.{Line, Token, lines, tokens}

-- the words that begin lines, in capitals or not, and some that do not
abbrev pub keywords : List (List ℕ × Option Keyword)
keywords =
    (codes "NAME", Some words.Name)
    ∷ (codes "COMMENT", Some words.Comment)
    ∷ (codes "TYPE", Some words.Type)
    ∷ (codes "DIMENSION", Some words.Dimension)
    ∷ (codes "CAPACITY", Some words.Capacity)
    ∷ (codes "EDGE_WEIGHT_TYPE", Some words.EdgeWeightType)
    ∷ (codes "EDGE_WEIGHT_FORMAT", Some words.EdgeWeightFormat)
    ∷ (codes "NODE_COORD_TYPE", Some words.NodeCoordType)
    ∷ (codes "DISPLAY_DATA_TYPE", Some words.DisplayDataType)
    ∷ (codes "DISTANCE", Some words.Distance)
    ∷ (codes "SERVICE_TIME", Some words.ServiceTime)
    ∷ (codes "VEHICLES", Some words.Vehicles)
    ∷ (codes "NODE_COORD_SECTION", Some words.NodeCoordSection)
    ∷ (codes "EDGE_WEIGHT_SECTION", Some words.EdgeWeightSection)
    ∷ (codes "DEMAND_SECTION", Some words.DemandSection)
    ∷ (codes "DEPOT_SECTION", Some words.DepotSection)
    ∷ (codes "DISPLAY_DATA_SECTION", Some words.DisplayDataSection)
    ∷ (codes "EDGE_DATA_SECTION", Some words.EdgeDataSection)
    ∷ (codes "FIXED_EDGES_SECTION", Some words.FixedEdgesSection)
    ∷ (codes "TOUR_SECTION", Some words.TourSection)
    ∷ (codes "EOF", Some words.Eof)
    ∷ (codes "eof", Some words.Eof)
    ∷ (codes "Edge_Weight_type", Some words.EdgeWeightType)
    ∷ (codes "", None)
    ∷ (codes "NAM", None)
    ∷ (codes "NAMES", None)
    ∷ (codes "EOF:", None)
    ∷ (codes "COST", None)
    ∷ (codes "NODE-COORD-SECTION", None)
    ∷ []

-- the bytes after a word; blanks and at most one colon are skipped
abbrev pub behind_words : List (List ℕ × List ℕ)
behind_words =
    (codes " : x y", codes " x y")
    ∷ (codes "\t\r:x", codes "x")
    ∷ (codes " x : y", codes "x : y")
    ∷ (codes ":: x", codes ": x")
    ∷ (codes "", codes "")
    ∷ []

-- without the blanks at both ends
abbrev pub trimmed : List (List ℕ × List ℕ)
trimmed =
    (codes " \t x  y \r", codes "x  y")
    ∷ (codes "x", codes "x")
    ∷ (codes " \t\r ", codes "")
    ∷ (codes "", codes "")
    ∷ []

-- the first word of the value of a header; the bytes after it do not count
abbrev pub first_words : List (List ℕ × List ℕ)
first_words =
    (codes " : EUC_2D (in the plane)", codes "EUC_2D")
    ∷ (codes ":TSP\r", codes "TSP")
    ∷ (codes "  TSP: x", codes "TSP:")
    ∷ (codes " : : TSP", codes ":")
    ∷ (codes " : ", codes "")
    ∷ []

-- the name in the value of a header
abbrev pub names : List (List ℕ × List ℕ)
names =
    (codes " : berlin52", codes "berlin52")
    ∷ (codes ": two words \r", codes "two words")
    ∷ (codes " : : x", codes ": x")
    ∷ (codes " : ", codes "Unnamed")
    ∷ (codes "", codes "Unnamed")
    ∷ []

-- a token that is EOF, also in small letters and with a colon
abbrev pub eof_tokens : List (List ℕ × Bool)
eof_tokens =
    (codes "EOF", true)
    ∷ (codes "eof:", true)
    ∷ (codes "EOF::", false)
    ∷ (codes "EOF-x", false)
    ∷ (codes "NAME", false)
    ∷ (codes "", false)
    ∷ []

-- a token that is not read as a number, since it is EOF or another keyword
abbrev pub word_tokens : List (List ℕ × Bool)
word_tokens =
    (codes "EOF", true)
    ∷ (codes "Name:", true)
    ∷ (codes "demand_section", true)
    ∷ (codes "VEHICLES", true)
    ∷ (codes "NAMES", false)
    ∷ (codes "1", false)
    ∷ []

abbrev line_is : ℕ → List ℕ → Bool → Line
line_is number bytes whole = record { number = number; bytes = bytes; whole = whole }

-- the lines of a text that has ended (true), or that can continue (false)
abbrev pub lines_of : Bool × List ℕ → List Line
lines_of text = lines text.0 1 text.1

abbrev pub line_lists : List ((Bool × List ℕ) × List Line)
line_lists =
    ((true, codes "a\n\nbc"), line_is 1 (codes "a") true ∷ line_is 2 [] true ∷ line_is 3 (codes "bc") true ∷ [])
    ∷ ((true, codes "a\n"), line_is 1 (codes "a") true ∷ line_is 2 [] true ∷ [])
    ∷ ((false, codes "a\r\nb"), line_is 1 (codes "a\r") true ∷ line_is 2 (codes "b") false ∷ [])
    ∷ ((false, codes ""), line_is 1 [] false ∷ [])
    ∷ []

abbrev token_is : List ℕ → ℕ → Bool → Token
token_is bytes line whole = record { bytes = bytes; line = line; whole = whole }

-- its tokens; the last one can continue too
abbrev pub tokens_in : Bool × List ℕ → List Token
tokens_in text = tokens (lines_of text)

abbrev pub token_lists : List ((Bool × List ℕ) × List Token)
token_lists = (
  (true, codes " 1 -22\n\n\t3:\r\nx"),
  token_is (codes "1") 1 true ∷ token_is (codes "-22") 1 true
      ∷ token_is (codes "3:") 3 true ∷ token_is (codes "x") 4 true ∷ [],
)
    ∷ ((false, codes "1 22"), token_is (codes "1") 1 true ∷ token_is (codes "22") 1 false ∷ [])
    ∷ ((false, codes "1 22 "), token_is (codes "1") 1 true ∷ token_is (codes "22") 1 true ∷ [])
    ∷ ((false, codes "1 22\n"), token_is (codes "1") 1 true ∷ token_is (codes "22") 1 true ∷ [])
    ∷ ((true, codes " \n\t\r\n"), [])
    ∷ []
