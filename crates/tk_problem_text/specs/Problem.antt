-- Problem texts.
use Rattle.std.specs.Prelude.{ℕ, suc, ◌-◌, ◌*◌, Bool, true, false, not, ◌||◌, ◌==◌, nat_lt, List, [], ◌∷◌, ◌++◌, length}
use Rattle.std.specs.Prelude.{get_or, map, Option, Some, None, Result, if◌then◌else◌, is_none, unwrap_or, option_map}
use Rattle.std.specs.Prelude.{option_and_then}
use Rattle.tk_problem.specs.declared.limits.TheConstants.{CAPACITY_LIMIT, CITY_LIMIT, TABLE_LIMIT, TEXT_LIMIT}
use Rattle.tk_words.specs.declared.keyword.Keyword.{Keyword}
use Rattle.tk_words.specs.declared.keyword.Keyword.TheVariants as words
use Rattle.tk_words.specs.declared.fault.TextKind.{TextKind}
use Rattle.tk_words.specs.declared.fault.TextKind.TheVariants as kinds
use Rattle.tk_words.specs.declared.fault.TextFault.{TextFault}
use Rattle.tk_problem.specs.declared.point.Point.{Point}
use Rattle.tk_problem.specs.declared.weights.PlaneKind.{PlaneKind}
use Rattle.tk_problem.specs.declared.weights.PlaneKind.TheVariants as planes
use Rattle.tk_problem.specs.declared.weights.Format as Layout
use Rattle.tk_problem.specs.declared.weights.Format.TheVariants as formats
use Rattle.tk_words.specs.Lex.{Token, after_word, trim}
use Rattle.tk_problem_text.specs.HeaderValues.{problem_type_of, weight_type_of, weight_format_of, header_number}
use Rattle.tk_problem_text.specs.HeaderValues.{name_of, is_coordinate_type}
use Rattle.tk_problem_text.specs.declared.header_values.ProblemType.{ProblemType}
use Rattle.tk_problem_text.specs.declared.header_values.ProblemType.TheVariants as types
use Rattle.tk_problem_text.specs.declared.header_values.WeightType.{WeightType}
use Rattle.tk_problem_text.specs.declared.header_values.WeightType.TheVariants as weight_types
use Rattle.tk_problem_text.specs.declared.header_values.WeightFormat.{WeightFormat}
use Rattle.tk_problem_text.specs.declared.header_values.WeightFormat.TheVariants as weight_formats
use Rattle.tk_lines.specs.HeaderValue.{first_word}
use Rattle.tk_lines.specs.Pieces.{Piece, Extent, Stop, first_at, or_else, After, has, value_of, tokens_in, Format}
use Rattle.tk_lines.specs.Pieces.{decided_by}
use Rattle.tk_words.specs.Entry.{number_tests}
use Rattle.tk_words.specs.Texts.{Texts, texts_of}
use Rattle.tk_problem_text.specs.Sections.Rows.{place_tests, demand_tests, row_places, number_in}
use Rattle.tk_problem_text.specs.Sections.WeightSection.{weight_count, weight_tests, lower_weights}
use Rattle.tk_problem_text.specs.Sections.Rows as Rows
use Rattle.tk_problem_text.specs.Sections.FixedSections.{tokens_stop, fixed_extent, fixed_end}
use Rattle.tk_problem_text.specs.Sections.DepotList.{depot_tests, depot_extent, depot_entries, depot_end}

-- ---- the values of the headers

abbrev pub problem_type : List Piece → Option ProblemType
problem_type ps = option_and_then problem_type_of (value_of words.Type ps)

abbrev pub weight_type : List Piece → Option WeightType
weight_type ps = option_and_then weight_type_of (value_of words.EdgeWeightType ps)

abbrev pub weight_format : List Piece → Option WeightFormat
weight_format ps = option_and_then weight_format_of (value_of words.EdgeWeightFormat ps)

-- the number of nodes
abbrev pub size_of : List Piece → ℕ
size_of ps = unwrap_or (option_and_then (header_number 2 CITY_LIMIT) (value_of words.Dimension ps)) 0

abbrev pub capacity_of : List Piece → ℕ
capacity_of ps = unwrap_or (option_and_then (header_number 1 CAPACITY_LIMIT) (value_of words.Capacity ps)) 0

abbrev pub is_cvrp : Option ProblemType → Bool
is_cvrp (Some types.Cvrp) = true
is_cvrp _ = false

abbrev pub is_explicit : Option WeightType → Bool
is_explicit (Some weight_types.Explicit) = true
is_explicit _ = false

abbrev pub plane_kind : Option WeightType → PlaneKind
plane_kind (Some (weight_types.Plane kind)) = kind
plane_kind _ = planes.Euc2d

abbrev pub listed_format : Option WeightFormat → Option Layout.Format
listed_format (Some (weight_formats.Listed f)) = Some f
listed_format _ = None

-- the format of the weights, if they are listed
abbrev pub format_in : List Piece → Layout.Format
format_in ps = unwrap_or (listed_format (weight_format ps)) formats.FullMatrix

-- the tests of a header, apart from its length, in their order of precedence
abbrev pub problem_header : List Piece → Keyword → List ℕ → List (Bool × TextKind)
problem_header before words.Name bs =
    (nat_lt 1024 (length (trim (after_word bs))), kinds.TooLong) ∷ (has words.Name before, kinds.Repeated) ∷ []
problem_header before words.Comment bs = []
problem_header before words.Type bs =
    (has words.Type before, kinds.Repeated) ∷ (is_none (problem_type_of bs), kinds.Unsupported) ∷ []
problem_header before words.Dimension bs =
    (has words.Dimension before, kinds.Repeated) ∷ number_tests 2 CITY_LIMIT (first_word bs)
problem_header before words.Capacity bs =
    (has words.Capacity before, kinds.Repeated) ∷ number_tests 1 CAPACITY_LIMIT (first_word bs)
problem_header before words.EdgeWeightType bs =
    (has words.EdgeWeightType before, kinds.Repeated) ∷ (is_none (weight_type_of bs), kinds.Unsupported) ∷ []
problem_header before words.EdgeWeightFormat bs =
    (has words.EdgeWeightFormat before, kinds.Repeated) ∷ (is_none (weight_format_of bs), kinds.Unsupported) ∷ []
problem_header before words.NodeCoordType bs =
    (has words.NodeCoordType before, kinds.Repeated) ∷ (not (is_coordinate_type bs), kinds.Unsupported) ∷ []
problem_header before words.DisplayDataType bs = (has words.DisplayDataType before, kinds.Repeated) ∷ []
problem_header before _ bs = (true, kinds.Unsupported) ∷ []

-- ---- sections

-- the number of tokens of a section that has a fixed number of them
abbrev pub wanted : List Piece → Keyword → ℕ
wanted before words.NodeCoordSection = 3 * size_of before
wanted before words.DemandSection = 2 * size_of before
wanted before words.DisplayDataSection = 3 * size_of before
wanted before words.EdgeWeightSection =
    unwrap_or (option_map (weight_count (size_of before)) (listed_format (weight_format before))) 0
wanted before _ = 0

abbrev pub problem_extent : List Piece → Keyword → List Token → Extent
problem_extent before words.DepotSection toks = depot_extent toks
problem_extent before word toks = fixed_extent (wanted before word) toks

-- the tests of a token of a section, given the tokens before it
abbrev pub token_tests : List Piece → Keyword → List Token → Token → List (Bool × TextKind)
token_tests ps words.NodeCoordSection before t = place_tests (size_of ps) before t
token_tests ps words.DemandSection before t = demand_tests (size_of ps) before t
token_tests ps words.EdgeWeightSection before t = weight_tests (size_of ps) (format_in ps) before t
token_tests ps words.DepotSection before t = depot_tests (size_of ps) before t
token_tests ps _ before t = []

-- tests at the word of a section: the headers that must come before it, whether the problem can have it, and the limit
-- of tables
abbrev pub section_tests : List Piece → Keyword → List (Bool × TextKind)
section_tests before words.NodeCoordSection = []
section_tests before words.DisplayDataSection = []
section_tests before words.EdgeWeightSection =
    (not (has words.EdgeWeightType before), kinds.Missing words.EdgeWeightType)
    ∷ (not (has words.EdgeWeightFormat before), kinds.Missing words.EdgeWeightFormat)
    ∷ (not (is_explicit (weight_type before)) || is_none (listed_format (weight_format before)), kinds.Unsupported)
    ∷ (nat_lt TABLE_LIMIT (size_of before), kinds.OutOfLimit) ∷ []
section_tests before words.DemandSection =
    (not (is_cvrp (problem_type before)), kinds.Unsupported)
    ∷ (nat_lt TABLE_LIMIT (size_of before), kinds.OutOfLimit) ∷ []
section_tests before words.DepotSection = (not (is_cvrp (problem_type before)), kinds.Unsupported) ∷ []
section_tests before _ = []

abbrev pub is_known_section : Keyword → Bool
is_known_section words.NodeCoordSection = true
is_known_section words.DisplayDataSection = true
is_known_section words.EdgeWeightSection = true
is_known_section words.DemandSection = true
is_known_section words.DepotSection = true
is_known_section _ = false

-- all tests at the word of a section
abbrev pub word_tests : List Piece → Keyword → List (Bool × TextKind)
word_tests before word = (not (is_known_section word), kinds.Unsupported) ∷ (has word before, kinds.Repeated)
    ∷ (not (has words.Type before), kinds.Missing words.Type)
    ∷ (not (has words.Dimension before), kinds.Missing words.Dimension) ∷ section_tests before word

abbrev pub section_end : Keyword → List Token → After → Option Stop
section_end words.DepotSection toks after = depot_end toks after
section_end word toks after = fixed_end after

abbrev pub section_entries : Keyword → List Token → List Token
section_entries words.DepotSection toks = depot_entries toks
section_entries _ toks = toks

abbrev pub problem_section : List Piece → Keyword → ℕ → List Token → After → Option Stop
problem_section before word n toks after =
    or_else (first_at n (word_tests before word))
    (or_else (tokens_stop (token_tests before word) [] (section_entries word toks)) (section_end word toks after))

-- ---- the value

pub data WeightsAre : Type 0 where
  Points : (kind : PlaneKind) (points : List Point) → WeightsAre
  Lower : (weights : List ℕ) → WeightsAre

pub record RoutingIs : Type 0 where
  pub capacity : ℕ
  pub demand : List ℕ
  pub depot : ℕ

pub record ProblemIs : Type 0 where
  pub name : List ℕ
  pub n : ℕ
  pub weights : WeightsAre
  pub routing : Option RoutingIs

abbrev pub points_of : List Piece → List Point
points_of ps = row_places (size_of ps) (tokens_in words.NodeCoordSection ps)

abbrev pub demands_of : List Piece → List ℕ
demands_of ps = Rows.demands_of (size_of ps) (tokens_in words.DemandSection ps)

abbrev pub lower_in : List Piece → List ℕ
lower_in ps = lower_weights (size_of ps) (format_in ps) (tokens_in words.EdgeWeightSection ps)

abbrev pub depot_of : List Piece → ℕ
depot_of ps = get_or (map number_in (tokens_in words.DepotSection ps)) 0 0

abbrev pub problem_value : List Piece → ProblemIs
problem_value ps = record {
  name = name_of (unwrap_or (value_of words.Name ps) []);
  n = size_of ps;
  weights = if is_explicit (weight_type ps) then Lower (lower_in ps)
      else Points (plane_kind (weight_type ps)) (points_of ps);
  routing = if is_cvrp (problem_type ps)
      then Some (record { capacity = capacity_of ps; demand = demands_of ps; depot = depot_of ps }) else None;
}

-- ---- the end

abbrev pub first_kind : List (Bool × TextKind) → Option TextKind
first_kind [] = None
first_kind (t ∷ ts) = let rest = first_kind ts in if t.0 then Some t.1 else rest

abbrev pub missing : List Piece → Keyword → Bool × TextKind
missing ps word = (not (has word ps), kinds.Missing word)

abbrev pub over_capacity : ℕ → ℕ → List ℕ → List (Bool × TextKind)
over_capacity capacity c [] = []
over_capacity capacity c (q ∷ qs) = (nat_lt capacity q, kinds.DemandOverCapacity c) ∷ over_capacity capacity (suc c) qs

-- the headers and sections that the weights require
abbrev pub weights_ends : List Piece → List (Bool × TextKind)
weights_ends ps =
    missing ps words.EdgeWeightType
    ∷ missing ps (if is_explicit (weight_type ps) then words.EdgeWeightSection else words.NodeCoordSection) ∷ []

-- the headers and sections that a CVRP requires; its depot must have no demand, and no node more than the capacity
abbrev pub routing_ends : List Piece → List (Bool × TextKind)
routing_ends ps =
    missing ps words.Capacity ∷ missing ps words.DemandSection ∷ missing ps words.DepotSection
    ∷ (not (get_or (demands_of ps) (depot_of ps - 1) 0 == 0), kinds.BadDepot)
    ∷ over_capacity (capacity_of ps) 1 (demands_of ps)

abbrev pub routing_ends_of : List Piece → List (Bool × TextKind)
routing_ends_of ps = if is_cvrp (problem_type ps) then routing_ends ps else []

-- the fault at the end of the text, that of the first test that is true
abbrev pub problem_end : List Piece → Option TextKind
problem_end ps =
    first_kind (missing ps words.Type ∷ missing ps words.Dimension ∷ (weights_ends ps ++ routing_ends_of ps))

-- the format of problem texts
abbrev pub problem_format : Format ProblemIs
problem_format = record {
  extent = problem_extent;
  header = problem_header;
  section = problem_section;
  at_end = problem_end;
  value = problem_value;
}

-- the result that bytes decide: of the whole text if it has ended, otherwise of every text that begins with them
abbrev pub problem_decided : Bool → List ℕ → Option (Result ProblemIs TextFault)
problem_decided = decided_by problem_format

-- problem texts
abbrev pub problem_texts : Texts ProblemIs TextFault
problem_texts = texts_of problem_decided TEXT_LIMIT
