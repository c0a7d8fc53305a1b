-- The stored parts of a problem, and the pieces that they come from.
use Rattle.std.specs.Prelude.{◌++◌, map, slice_index, true}
use Rattle.tk_words.specs.Lex.{Token}
use Rattle.tk_lines.specs.Pieces.{After, Piece, has}
use Rattle.tk_lines.specs.Reader.Handlers.{a_section}
use Rattle.tk_problem_text.specs.Sections.Rows as Rows
use Rattle.tk_problem_text.specs.Sections.Rows.{number_in, row_places}
use Rattle.tk_problem_text.specs.Sections.WeightSection.{lower_weights}
use Rattle.tk_problem_text.specs.Problem.{format_in, WeightsAre, RoutingIs, ProblemIs, size_of, points_of, lower_in}
use Rattle.tk_problem_text.specs.Problem.{demands_of, depot_of}
use Rattle.std.specs.Prelude.{◌≡◌, ◌≤◌, ℕ, false, List, [], length, Option, Some, None, IfSome, is_some, unwrap_or, Vec}
use Rattle.std.specs.declared.alloc.Global.{Global}
use Rattle.tk_problem.specs.declared.limits.TheConstants.{CITY_LIMIT, TABLE_LIMIT}
use Rattle.tk_problem.specs.declared.point.Point.{Point}
use Rattle.tk_problem_text.specs.declared.header_values.WeightType.{WeightType}
use Rattle.tk_problem_text.specs.declared.header_values.WeightType.TheVariants as types
use Rattle.tk_problem_text.specs.declared.header_values.ProblemType.{ProblemType}
use Rattle.tk_problem_text.specs.declared.header_values.ProblemType.TheVariants as kinds
use Rattle.tk_words.specs.declared.keyword.Keyword.{Keyword}
use Rattle.tk_words.specs.declared.keyword.Keyword.TheVariants as words
use Rattle.tk_problem_text.specs.declared.parts.Parts.{Parts}
use Rattle.tk_problem.specs.declared.weights.Weights.TheVariants.{Points, Lower}
use Rattle.tk_problem.specs.Shape.{WeightsFit, IsRouting}
use Rattle.tk_problem_text.specs.Reader.Headers.{HasHeaders}
use Rattle.tk_problem_text.specs.Problem as value

-- the contents of a section are stored once it has been read
pub record KeepsValue {A B : Type 0} (word : Keyword) (view : A → B) (value : B) (kept : Option A)
    (ps : List Piece) : Type 0 where
  pub came : has word ps ≡ is_some kept
  pub is : IfSome kept (λ a. view a ≡ value)

-- no section that depends on the number of nodes has been read
pub record HasNoSection (ps : List Piece) : Type 0 where
  pub places : has words.NodeCoordSection ps ≡ false
  pub lower : has words.EdgeWeightSection ps ≡ false
  pub demand : has words.DemandSection ps ≡ false
  pub depot : has words.DepotSection ps ≡ false

pub record HasParts (p : Parts) (ps : List Piece) : Type 0 where
  pub headers : HasHeaders p.headers ps
  pub places : KeepsValue words.NodeCoordSection (λ x. x) (points_of ps) p.places ps
  pub lower : KeepsValue words.EdgeWeightSection (λ v. v.items) (lower_in ps) p.lower ps
  pub demand : KeepsValue words.DemandSection (λ v. v.items) (demands_of ps) p.demand ps
  pub depot : KeepsValue words.DepotSection (λ d. d) (depot_of ps) p.depot ps
  pub display : p.has_display ≡ has words.DisplayDataSection ps
  pub sized : has words.Dimension ps ≡ false → HasNoSection ps
  pub formatted : has words.EdgeWeightFormat ps ≡ false → has words.EdgeWeightSection ps ≡ false
  pub lower_fits : IfSome p.lower (λ v. WeightsFit (size_of ps) (Lower v))
  pub demand_small : IfSome p.demand (λ _. size_of ps ≤ TABLE_LIMIT)
  pub depot_in : IfSome p.depot (λ d. (1 ≤ d) × (d ≤ size_of ps))

-- ---- the problem that the parts make

-- the parts of the weights have been read, and fit n nodes
abbrev pub MakesWeights : ℕ → Option WeightType → Option (List Point) → Option (Vec ℕ Global) → Type 0
MakesWeights n None places lower = ⊥
MakesWeights n (Some (types.Plane kind)) None lower = ⊥
MakesWeights n (Some (types.Plane kind)) (Some places) lower = WeightsFit n (Points kind places)
MakesWeights n (Some types.Explicit) places None = ⊥
MakesWeights n (Some types.Explicit) places (Some lower) = WeightsFit n (Lower lower)

abbrev pub weights_in : Option WeightType → Option (List Point) → Option (Vec ℕ Global) → WeightsAre
weights_in (Some (types.Plane kind)) (Some places) lower = value.Points kind places
weights_in _ places (Some lower) = value.Lower lower.items
weights_in _ places None = value.Lower []

-- the parts of the routing have been read, and fit n nodes
abbrev pub MakesRouting : ℕ → Option ProblemType → Option ℕ → Option (Vec ℕ Global) → Option ℕ → Type 0
MakesRouting n (Some kinds.Cvrp) (Some capacity) (Some demand) (Some depot) =
    IsRouting n (record { capacity = capacity; demand = demand; depot = depot })
MakesRouting n (Some kinds.Cvrp) _ _ _ = ⊥
MakesRouting n _ capacity demand depot = Unit {0}

abbrev pub routing_in : Option ProblemType → Option ℕ → Option (Vec ℕ Global) → Option ℕ → Option RoutingIs
routing_in (Some kinds.Cvrp) (Some capacity) (Some demand) (Some depot) =
    Some (record { capacity = capacity; demand = demand.items; depot = depot })
routing_in _ capacity demand depot = None

-- the parts describe a problem
pub record IsWhole (p : Parts) : Type 0 where
  pub short : length p.headers.name.items ≤ 1024
  pub n : ℕ
  pub size : p.headers.dimension ≡ Some n
  pub low : 2 ≤ n
  pub high : n ≤ CITY_LIMIT
  pub weights : MakesWeights n p.headers.weight_type p.places p.lower
  pub routing : MakesRouting n p.headers.problem_type p.headers.capacity p.demand p.depot

abbrev pub problem_in : Parts → ProblemIs
problem_in p = record {
  name = p.headers.name.items;
  n = unwrap_or p.headers.dimension 0;
  weights = weights_in p.headers.weight_type p.places p.lower;
  routing = routing_in p.headers.problem_type p.headers.capacity p.demand p.depot;
}

-- the coordinates of NODE_COORD_SECTION are stored
abbrev pub KeepsPlaces : List Point → Parts → Parts → Type 0
KeepsPlaces places old new =
    (ps : List Piece) (n : ℕ) (toks : List Token) (after : After) → HasParts old ps → has words.Dimension ps ≡ true →
    has words.NodeCoordSection ps ≡ false → places ≡ row_places (size_of ps) toks →
    HasParts new (ps ++ a_section words.NodeCoordSection n toks after)

-- the weights of EDGE_WEIGHT_SECTION are stored
abbrev pub KeepsLower : Vec ℕ Global → Parts → Parts → Type 0
KeepsLower lower old new =
    (ps : List Piece) (n : ℕ) (toks : List Token) (after : After) → HasParts old ps → has words.Dimension ps ≡ true →
    has words.EdgeWeightSection ps ≡ false → lower.items ≡ lower_weights (size_of ps) (format_in ps) toks →
    has words.EdgeWeightFormat ps ≡ true → WeightsFit (size_of ps) (Lower lower) →
    HasParts new (ps ++ a_section words.EdgeWeightSection n toks after)

-- the demands of DEMAND_SECTION are stored
abbrev pub KeepsDemand : Vec ℕ Global → Parts → Parts → Type 0
KeepsDemand demand old new =
    (ps : List Piece) (n : ℕ) (toks : List Token) (after : After) → HasParts old ps → has words.Dimension ps ≡ true →
    has words.DemandSection ps ≡ false → demand.items ≡ Rows.demands_of (size_of ps) toks →
    size_of ps ≤ TABLE_LIMIT →
    HasParts new (ps ++ a_section words.DemandSection n toks after)

-- the node of DEPOT_SECTION is stored
abbrev pub KeepsDepot : ℕ → Parts → Parts → Type 0
KeepsDepot depot old new =
    (ps : List Piece) (n : ℕ) (toks : List Token) (after : After) → HasParts old ps → has words.Dimension ps ≡ true →
    has words.DepotSection ps ≡ false → depot ≡ slice_index (map number_in toks) 0 →
    (1 ≤ depot) × (depot ≤ size_of ps) → HasParts new (ps ++ a_section words.DepotSection n toks after)

-- DISPLAY_DATA_SECTION is noted
abbrev pub NotesDisplay : Parts → Parts → Type 0
NotesDisplay old new =
    (ps : List Piece) (n : ℕ) (toks : List Token) (after : After) → HasParts old ps → has words.Dimension ps ≡ true →
    HasParts new (ps ++ a_section words.DisplayDataSection n toks after)
