-- The section of a problem that is being read.
use Rattle.std.specs.Prelude.{IfErr, IfOk, Result}
use Rattle.std.specs.Prelude.{◌≡◌, ◌≤◌, ◌+◌, ◌*◌, ◌++◌, ℕ, true, List, length, map, slice_index, Option, Some, None, []}
use Rattle.tk_problem.specs.declared.limits.TheConstants.{TABLE_LIMIT}
use Rattle.tk_words.specs.declared.fault.TextKind.{TextKind}
use Rattle.tk_words.specs.declared.fault.TextKind.TheVariants as kinds
use Rattle.tk_words.specs.declared.keyword.Keyword.{Keyword}
use Rattle.tk_words.specs.declared.keyword.Keyword.TheVariants as words
use Rattle.tk_problem_text.specs.declared.sections.open_section.OpenSection.{OpenSection}
use Rattle.tk_problem_text.specs.declared.sections.open_section.OpenSection.TheVariants.{Nothing, Places, Explicit}
use Rattle.tk_problem_text.specs.declared.sections.open_section.OpenSection.TheVariants.{Loads, Home, Display}
use Rattle.tk_words.specs.Lex.{Token}
use Rattle.tk_lines.specs.declared.handler.Taken.{Taken}
use Rattle.tk_lines.specs.Pieces.{Piece, After, Early, Fault, has, first_at}
use Rattle.tk_lines.specs.Reader.Handlers.{HasTakenToken, IsReportedWord, StopsAt, a_section, whole}
use Rattle.tk_problem_text.specs.Sections.Rows.{number_in}
use Rattle.tk_problem_text.specs.Reader.FixedTokens.{HasTokens}
use Rattle.tk_problem_text.specs.Sections.FixedSections.{tokens_stop}
use Rattle.tk_problem_text.specs.Sections.WeightSection.{weight_count}
use Rattle.tk_problem_text.specs.Problem.{size_of, format_in, token_tests, wanted, problem_format, word_tests}
use Rattle.tk_problem_text.specs.Reader.Coordinates.{HasPlaces}
use Rattle.tk_problem_text.specs.Reader.Demands.{HasDemands}
use Rattle.tk_problem_text.specs.Reader.Weighing.{HasWeights}
use Rattle.tk_problem_text.specs.Reader.DepotTaken.{HasDepot}
use Rattle.tk_problem_text.specs.Sections.DepotList.{depot_tests}

-- a depot section whose word has no fault, and tokens of it without a fault
pub record HasDepotTokens (before : List Piece) (n : ℕ) (toks : List Token) : Type 0 where
  pub word : first_at n (word_tests before words.DepotSection) ≡ None
  pub few : length toks ≤ 1
  pub good : tokens_stop (depot_tests (size_of before)) [] toks ≡ None

-- tokens without a fault, of a section with a fixed number of tokens
abbrev pub HasSome : List Piece → Keyword → ℕ → List Token → Type 0
HasSome before word n toks = HasTokens problem_format before word n (token_tests before word) (wanted before word) toks

-- the format of the weights has been read, and determines their number
abbrev pub IsListed : List Piece → Type 0
IsListed before = (has words.EdgeWeightFormat before ≡ true)
    × (wanted before words.EdgeWeightSection ≡ weight_count (size_of before) (format_in before))

-- after these pieces, these tokens of the word's section have been taken, and more are to come
abbrev pub IsOpen : List Piece → Keyword → ℕ → List Token → OpenSection → Type 0
IsOpen before word n toks Nothing = ⊥
IsOpen before word n toks (Places s) =
    (word ≡ words.NodeCoordSection) × HasSome before word n toks × HasPlaces (size_of before) s toks
IsOpen before word n toks (Explicit s) =
    (word ≡ words.EdgeWeightSection) × HasSome before word n toks
    × HasWeights (size_of before) (format_in before) s toks × IsListed before
IsOpen before word n toks (Loads s) =
    (word ≡ words.DemandSection) × HasSome before word n toks × HasDemands (size_of before) s toks
    × (size_of before ≤ TABLE_LIMIT)
IsOpen before word n toks (Home s) =
    (word ≡ words.DepotSection) × HasDepotTokens before n toks × HasDepot (size_of before) s toks
IsOpen before word n toks (Display left) =
    (word ≡ words.DisplayDataSection) × HasSome before word n toks × (left + length toks ≡ 3 * size_of before)

-- a section with a fixed number of tokens
abbrev pub IsCounted : OpenSection → Type 0
IsCounted Nothing = ⊥
IsCounted (Home s) = ⊥
IsCounted _ = Unit {0}

-- a node from 1 to n, the first in the list
abbrev pub IsFirstNode : ℕ → ℕ → Option ℕ → Type 0
IsFirstNode n first None = ⊥
IsFirstNode n first (Some node) = (node ≡ first) × (1 ≤ node) × (node ≤ n)

-- these are all tokens of the section
abbrev pub IsFull : List Piece → Keyword → List Token → OpenSection → Type 0
IsFull before word toks Nothing = ⊥
IsFull before word toks (Places s) =
    (word ≡ words.NodeCoordSection) × HasPlaces (size_of before) s toks × (length toks ≡ 3 * size_of before)
IsFull before word toks (Explicit s) =
    (word ≡ words.EdgeWeightSection) × HasWeights (size_of before) (format_in before) s toks × IsListed before
IsFull before word toks (Loads s) =
    (word ≡ words.DemandSection) × HasDemands (size_of before) s toks × (length toks ≡ 2 * size_of before)
    × (size_of before ≤ TABLE_LIMIT)
IsFull before word toks (Home s) =
    (word ≡ words.DepotSection) × IsFirstNode (size_of before) (slice_index (map number_in toks) 0) s.node
IsFull before word toks (Display left) = word ≡ words.DisplayDataSection

-- the pieces are those before the section, followed by the whole section
pub record IsPast (before : List Piece) (word : Keyword) (n : ℕ) (s : OpenSection) (ps : List Piece) : Type 0 where
  pub toks : List Token
  pub after : After
  pub are : ps ≡ before ++ a_section word n toks after
  pub full : IsFull before word toks s

-- a token of the section is taken
abbrev pub TakesOpen : List ℕ → OpenSection → OpenSection → Result Taken TextKind → Type 0
TakesOpen token old new result =
    (before : List Piece) (word : Keyword) (n : ℕ) (toks : List Token) (line : ℕ) → IsOpen before word n toks old
    → IfOk result
    (HasTakenToken problem_format (IsPast before word n new) (λ ps w m ts. IsOpen ps w m ts new) before word n
    toks (whole token line))

abbrev pub RefusesOpen : List ℕ → OpenSection → Result Taken TextKind → Type 0
RefusesOpen token old result =
    (before : List Piece) (word : Keyword) (n : ℕ) (toks : List Token) (line : ℕ) → IsOpen before word n toks old
    → IfErr result (IsReportedWord (StopsAt problem_format before word n toks (whole token line)))

-- the text is allowed to end after the tokens of the section
abbrev pub MayEnd : OpenSection → Type 0
MayEnd s =
    (before : List Piece) (word : Keyword) (n : ℕ) (toks : List Token) (line : ℕ) → IsOpen before word n toks s
    → IsPast before word n s (before ++ a_section word n toks (Early line true))
    × (problem_format.section before word n toks (Early line true) ≡ None)

-- the text is cut short after the tokens of the section
abbrev pub IsCutShort : OpenSection → Type 0
IsCutShort s =
    (before : List Piece) (word : Keyword) (n : ℕ) (toks : List Token) (line : ℕ) → IsOpen before word n toks s
    → problem_format.section before word n toks (Early line true) ≡ Some (Fault line kinds.Truncated)
