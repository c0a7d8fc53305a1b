-- The guarantees of the form of problem texts with the places of their cities.
use Rattle.std.specs.Prelude.{◌≡◌, ℕ, ◌*◌, true, false, List, [], ◌++◌, Option, Some, None, Result, IfOk, IfErr}
use Rattle.std.specs.Prelude.{IfSome, length, unwrap_or}
use Rattle.tk_problem.specs.declared.point.Point.{Point}
use Rattle.tk_words.specs.declared.keyword.Keyword.{Keyword}
use Rattle.tk_words.specs.declared.keyword.Keyword.TheVariants as words
use Rattle.tk_words.specs.Lex.{Token}
use Rattle.tk_words.specs.declared.fault.TextKind.{TextKind}
use Rattle.tk_lines.specs.declared.handler.Taken.{Taken}
use Rattle.tk_lines.specs.Pieces.{After, Piece, has}
use Rattle.tk_lines.specs.Reader.Handlers.{HasTakenToken, IsReportedWord, Promise, StopsAt, a_section, whole}
use Rattle.tk_problem_text.specs.declared.display.Display.{Display}
use Rattle.tk_problem_text.specs.declared.display.Display.TheVariants.{Open, Read, Unread}
use Rattle.tk_problem_text.specs.declared.header_values.WeightType.{WeightType}
use Rattle.tk_problem_text.specs.declared.header_values.WeightType.TheVariants.{Explicit}
use Rattle.tk_problem_text.specs.declared.placed_handler.PlacedHandler.{PlacedHandler}
use Rattle.tk_problem_text.specs.declared.placed_problem.GivenPlaces.{GivenPlaces}
use Rattle.tk_problem_text.specs.declared.placed_problem.PlacesOrigin.TheVariants.{DisplayData, NodeCoordinates}
use Rattle.tk_problem_text.specs.Placed.{PlacedIs, display_points, is_plane, placed_format, reads_display}
use Rattle.tk_problem_text.specs.Problem.{size_of, weight_type}
use Rattle.tk_problem_text.specs.Reader.Coordinates.{HasPlaces, Placing}
use Rattle.tk_problem_text.specs.Reader.FixedTokens.{HasTokens}
use Rattle.tk_problem_text.specs.Reader.Parts.{HasParts, IsWhole, problem_in}
use Rattle.tk_problem_text.specs.Reader.ProblemHandler.{ProblemWants}
use Rattle.tk_problem_text.specs.Sections.Rows.{place_tests}

-- the display data of these pieces: they have not been read, so the weights are in the plane if there are any; or their
-- coordinates are stored
abbrev pub HasDisplay : List Piece → Display → Type 0
HasDisplay ps Unread = has words.DisplayDataSection ps ≡ true → is_plane (weight_type ps) ≡ true
HasDisplay ps (Open section) = ⊥
HasDisplay ps (Read points) = (has words.DisplayDataSection ps ≡ true) × (has words.Dimension ps ≡ true)
    × (points ≡ display_points ps)

pub record PlacedHolds (s : PlacedHandler) (ps : List Piece) : Type 0 where
  pub parts : HasParts s.problem.parts ps
  pub display : HasDisplay ps s.display

-- these tokens of the display data are stored
pub record HasShown (before : List Piece) (n : ℕ) (toks : List Token) : Type 0 where
  pub sized : has words.Dimension before ≡ true
  pub fresh : has words.DisplayDataSection before ≡ false
  pub read : reads_display before words.DisplayDataSection ≡ true
  pub tokens : HasTokens placed_format before words.DisplayDataSection n (place_tests (size_of before))
      (3 * size_of before) toks

-- the display data are stored, and the pieces are those before them, followed by their section
pub record IsShown (before : List Piece) (n : ℕ) (section : Placing) (ps : List Piece) : Type 0 where
  pub toks : List Token
  pub after : After
  pub are : ps ≡ before ++ a_section words.DisplayDataSection n toks after
  pub sized : has words.Dimension before ≡ true
  pub fresh : has words.DisplayDataSection before ≡ false
  pub places : HasPlaces (size_of before) section toks
  pub all : length toks ≡ 3 * size_of before

-- a token of the display data is taken
abbrev pub TakesShown : List ℕ → Placing → Placing → Result Taken TextKind → Type 0
TakesShown token old new result =
    (before : List Piece) (n : ℕ) (toks : List Token) (line : ℕ) → HasShown before n toks
    → HasPlaces (size_of before) old toks
    → IfOk result (HasTakenToken placed_format (IsShown before n new)
    (λ ps word m ts. HasShown before n ts × HasPlaces (size_of before) new ts) before words.DisplayDataSection n toks
    (whole token line))

abbrev pub RefusesShown : List ℕ → Placing → Result Taken TextKind → Type 0
RefusesShown token old result =
    (before : List Piece) (n : ℕ) (toks : List Token) (line : ℕ) → HasShown before n toks
    → HasPlaces (size_of before) old toks
    → IfErr result
    (IsReportedWord (StopsAt placed_format before words.DisplayDataSection n toks (whole token line)))

-- after these pieces, these tokens of the word's section have been taken, and more are to come
abbrev pub IsPlacing : PlacedHandler → List Piece → Keyword → ℕ → List Token → Display → Type 0
IsPlacing s before word n toks (Open section) =
    (word ≡ words.DisplayDataSection) × HasParts s.problem.parts before × HasShown before n toks
    × HasPlaces (size_of before) section toks
IsPlacing s before word n toks display =
    (reads_display before word ≡ false) × ProblemWants s.problem before word n toks × HasDisplay before display

abbrev pub PlacedWants : PlacedHandler → List Piece → Keyword → ℕ → List Token → Type 0
PlacedWants s before word n toks = IsPlacing s before word n toks s.display

-- the display data begin
abbrev pub BeginsDisplay : PlacedHandler → PlacedHandler → Result (Unit {0}) TextKind → Type 0
BeginsDisplay old new result =
    (before : List Piece) (n : ℕ) → HasParts old.problem.parts before → HasShown before n []
    → IfOk result (λ _. PlacedWants new before words.DisplayDataSection n [])

-- the display data are stored after their last token
abbrev pub ClosesDisplay : PlacedHandler → PlacedHandler → Type 0
ClosesDisplay old new =
    (section : Placing) (before : List Piece) (n : ℕ) (ps : List Piece) → old.display ≡ Open section
    → HasParts old.problem.parts before → IsShown before n section ps → PlacedHolds new ps

-- the places of the cities of explicit weights, out of the parts of a problem
abbrev pub places_in : Option WeightType → Option (List Point) → Display → Option GivenPlaces
places_in (Some Explicit) nodes (Read points) = Some (record { origin = DisplayData; points = points })
places_in (Some Explicit) (Some nodes) _ = Some (record { origin = NodeCoordinates; points = nodes })
places_in _ nodes display = None

abbrev pub placed_held : PlacedHandler → PlacedIs
placed_held s = record {
  problem = problem_in s.problem.parts;
  places = places_in s.problem.parts.headers.weight_type s.problem.parts.places s.display;
}

-- there are as many places as cities
abbrev pub AreEnough : ℕ → Option GivenPlaces → Type 0
AreEnough n places = IfSome places (λ given. length given.points ≡ n)

abbrev pub HasAllPlaced : PlacedHandler → Type 0
HasAllPlaced s = IsWhole s.problem.parts
    × AreEnough (unwrap_or s.problem.parts.headers.dimension 0) (placed_held s).places

abbrev pub placed_promise : Promise PlacedIs PlacedHandler
placed_promise =
    record {
      format = placed_format;
      holds = PlacedHolds;
      wants = PlacedWants;
      held = placed_held;
      complete = HasAllPlaced;
    }
