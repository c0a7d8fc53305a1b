-- Problem texts with the places of their cities. In these texts, the values of DISPLAY_DATA_SECTION are coordinates,
-- unless the weights are known to be distances in the plane.
--     given_places ps      the places of the cities of a problem with explicit weights
--     placed_texts      problem texts, with these places
use Rattle.std.specs.Prelude.{◌≡◌, ℕ, Bool, true, false, not, List, [], Option, Some, None, Ok, if◌then◌else◌}
use Rattle.tk_problem.specs.declared.limits.TheConstants.{TEXT_LIMIT}
use Rattle.tk_problem.specs.declared.point.Point.{Point}
use Rattle.tk_words.specs.declared.keyword.Keyword.{Keyword}
use Rattle.tk_words.specs.declared.keyword.Keyword.TheVariants as words
use Rattle.tk_words.specs.declared.fault.TextFault.{TextFault}
use Rattle.tk_words.specs.Lex.{Token}
use Rattle.tk_words.specs.Texts.{Decided, Texts, texts_of}
use Rattle.tk_lines.specs.Pieces.{After, Format, Piece, Stop, decided_by, first_at, has, or_else, tokens_in}
use Rattle.tk_problem_text.specs.declared.header_values.WeightType.{WeightType}
use Rattle.tk_problem_text.specs.declared.header_values.WeightType.TheVariants as weight_types
use Rattle.tk_problem_text.specs.declared.placed_problem.GivenPlaces.{GivenPlaces}
use Rattle.tk_problem_text.specs.declared.placed_problem.PlacedProblem.{PlacedProblem}
use Rattle.tk_problem_text.specs.declared.placed_problem.PlacesOrigin.TheVariants.{DisplayData, NodeCoordinates}
use Rattle.tk_problem_text.specs.Problem.{ProblemIs, is_explicit, points_of, problem_decided, problem_end}
use Rattle.tk_problem_text.specs.Problem.{problem_extent, problem_header, problem_value, section_end}
use Rattle.tk_problem_text.specs.Problem.{section_entries, size_of, token_tests, weight_type, word_tests}
use Rattle.tk_problem_text.specs.ProblemOf.{problem_is}
use Rattle.tk_problem_text.specs.Sections.FixedSections.{TokenTests, tokens_stop}
use Rattle.tk_problem_text.specs.Sections.Rows.{place_tests, row_places}

-- the weights are distances in the plane
abbrev pub is_plane : Option WeightType → Bool
is_plane (Some (weight_types.Plane kind)) = true
is_plane _ = false

-- the values of a section are display data that are read
abbrev pub reads_display : List Piece → Keyword → Bool
reads_display before words.DisplayDataSection = not (is_plane (weight_type before))
reads_display before _ = false

-- the tests of a token of a section, given the tokens before it: display data are tested like NODE_COORD_SECTION
abbrev pub placed_tests : List Piece → Keyword → TokenTests
placed_tests before word =
    if reads_display before word then place_tests (size_of before) else token_tests before word

abbrev pub placed_section : List Piece → Keyword → ℕ → List Token → After → Option Stop
placed_section before word n toks after =
    or_else (first_at n (word_tests before word))
    (or_else (tokens_stop (placed_tests before word) [] (section_entries word toks)) (section_end word toks after))

-- the coordinates in DISPLAY_DATA_SECTION
abbrev pub display_points : List Piece → List Point
display_points ps = row_places (size_of ps) (tokens_in words.DisplayDataSection ps)

-- the places of the cities, whatever the weights: those of DISPLAY_DATA_SECTION, otherwise those of NODE_COORD_SECTION
abbrev pub section_places : List Piece → Option GivenPlaces
section_places ps =
    if has words.DisplayDataSection ps then Some (record { origin = DisplayData; points = display_points ps })
    else (if has words.NodeCoordSection ps then Some (record { origin = NodeCoordinates; points = points_of ps })
    else None)

-- the places of the cities of a problem with explicit weights
abbrev pub given_places : List Piece → Option GivenPlaces
given_places ps = if is_explicit (weight_type ps) then section_places ps else None

-- a problem, and the places of its cities
pub record PlacedIs : Type 0 where
  pub problem : ProblemIs
  pub places : Option GivenPlaces

abbrev pub placed_value : List Piece → PlacedIs
placed_value ps = record { problem = problem_value ps; places = given_places ps }

abbrev pub placed_format : Format PlacedIs
placed_format = record {
  extent = problem_extent;
  header = problem_header;
  section = placed_section;
  at_end = problem_end;
  value = placed_value;
}

abbrev pub placed_decided : Decided PlacedIs TextFault
placed_decided = decided_by placed_format

-- a text that is read with the places of its cities is read as the same problem without them
abbrev pub IsReadAsProblem : Type 0
IsReadAsProblem =
    (ended : Bool) (text : List ℕ) (v : PlacedIs) → placed_decided ended text ≡ Some (Ok v) →
    problem_decided ended text ≡ Some (Ok v.problem)

-- problem texts, with the places of their cities
abbrev pub placed_texts : Texts PlacedIs TextFault
placed_texts = texts_of placed_decided TEXT_LIMIT

-- a problem with places as contracts see it
abbrev pub placed_is : PlacedProblem → PlacedIs
placed_is p = record { problem = problem_is p.problem; places = p.places }
