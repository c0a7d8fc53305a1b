-- The beginning of a section of a problem.
use Rattle.std.specs.Prelude.{IfErr, Result}
use Rattle.tk_words.specs.declared.fault.TextKind.{TextKind}
use Rattle.tk_problem_text.specs.declared.parts.Parts.{Parts}
use Rattle.tk_lines.specs.Pieces.{Fault, Piece, first_at, has}
use Rattle.tk_lines.specs.Reader.Handlers.{IsReportedWord}
use Rattle.tk_problem_text.specs.Reader.Parts.{HasParts}
use Rattle.std.specs.Prelude.{◌≡◌, ◌≤◌, ◌*◌, ℕ, Bool, true, false, List, [], Option, Some, None, if◌then◌else◌}
use Rattle.tk_problem.specs.declared.limits.TheConstants.{TABLE_LIMIT}
use Rattle.tk_words.specs.declared.keyword.Keyword.{Keyword}
use Rattle.tk_words.specs.declared.keyword.Keyword.TheVariants as words
use Rattle.tk_problem_text.specs.declared.sections.open_section.OpenSection.{OpenSection}
use Rattle.tk_problem_text.specs.declared.sections.open_section.OpenSection.TheVariants.{Nothing, Places, Explicit}
use Rattle.tk_problem_text.specs.declared.sections.open_section.OpenSection.TheVariants.{Loads, Home, Display}
use Rattle.tk_problem_text.specs.Problem.{size_of, format_in, is_known_section, section_tests, word_tests}
use Rattle.tk_problem_text.specs.Reader.OpenSections.{IsListed, IsOpen}
use Rattle.tk_problem_text.specs.Reader.Coordinates.{HasPlaces}
use Rattle.tk_problem_text.specs.Reader.Demands.{HasDemands}
use Rattle.tk_problem_text.specs.Reader.Weighing.{HasWeights}
use Rattle.tk_problem_text.specs.Reader.DepotTaken.{HasDepot}

-- no token of the section of this word has been taken
abbrev pub HasNoToken : List Piece → Keyword → OpenSection → Type 0
HasNoToken before word Nothing = ⊥
HasNoToken before word (Places s) = (word ≡ words.NodeCoordSection) × HasPlaces (size_of before) s []
HasNoToken before word (Explicit s) =
    (word ≡ words.EdgeWeightSection) × HasWeights (size_of before) (format_in before) s [] × IsListed before
HasNoToken before word (Loads s) =
    (word ≡ words.DemandSection) × HasDemands (size_of before) s [] × (size_of before ≤ TABLE_LIMIT)
HasNoToken before word (Home s) = (word ≡ words.DepotSection) × HasDepot (size_of before) s []
HasNoToken before word (Display left) = (word ≡ words.DisplayDataSection) × (left ≡ 3 * size_of before)

-- whether the section of a word has been read; None if problems have no such section
abbrev pub came : List Piece → Keyword → Option Bool
came ps word = if is_known_section word then Some (has word ps) else None

-- the section passes the tests that depend on its word, and none of its tokens has been taken
pub record IsReady (before : List Piece) (word : Keyword) (s : OpenSection) : Type 0 where
  pub tests : (n : ℕ) → first_at n (section_tests before word) ≡ None
  pub untouched : HasNoToken before word s

-- the section of this word begins on this line
pub record IsBegunSection (before : List Piece) (word : Keyword) (n : ℕ) (s : OpenSection) : Type 0 where
  pub sized : has words.Dimension before ≡ true
  pub fresh : has word before ≡ false
  pub none : first_at n (word_tests before word) ≡ None
  pub begun : IsOpen before word n [] s

-- the section of this word is refused, with the fault of the first test that is true
abbrev pub RefusesToBegin : Parts → Keyword → Result OpenSection TextKind → Type 0
RefusesToBegin parts word result =
    (before : List Piece) (n : ℕ) → HasParts parts before →
    IfErr result (IsReportedWord (λ k. first_at n (word_tests before word) ≡ Some (Fault n k)))
