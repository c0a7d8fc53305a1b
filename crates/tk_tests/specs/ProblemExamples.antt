-- Examples of problem texts that are accepted, and of the answers that beginnings of texts decide.
use Rattle.std.specs.Prelude.{ℕ, ◌*◌, true, false, List, [], ◌∷◌, ◌++◌, Option, Some, None, Result, Ok, Err, pos}
use Rattle.std.specs.Prelude.{negsuc, codes}
use Rattle.tk_text.specs.declared.Keyword.TheVariants as words
use Rattle.tk_text.specs.declared.TextKind.{TextKind}
use Rattle.tk_text.specs.declared.TextKind.TheVariants as kinds
use Rattle.tk_text.specs.declared.TextFault.{TextFault}
use Rattle.tk_text.specs.declared.Point.{Point}
use Rattle.tk_text.specs.declared.PlaneKind.{PlaneKind}
use Rattle.tk_text.specs.declared.PlaneKind.TheVariants as planes
use Rattle.tk_text.specs.Problem.{ProblemIs, WeightsAre, Points, Lower, problem_decided}

abbrev pub ProblemAnswer : Type 0
ProblemAnswer = Option (Result ProblemIs TextFault)

-- the answer to a text
abbrev pub problem_of : List ℕ → ProblemAnswer
problem_of text = problem_decided true text

-- the answer to all texts that begin with these bytes
abbrev pub problem_begun : List ℕ → ProblemAnswer
problem_begun text = problem_decided false text

-- a fault on this line; or no answer, since more bytes decide it
abbrev pub fault : ℕ → TextKind → ProblemAnswer
fault line kind = Some (Err (record { line = line; kind = kind }))

abbrev pub undecided : ProblemAnswer
undecided = None

-- a point with whole coordinates, in billionths
abbrev pub place : ℕ → ℕ → Point
place x y = record { x = pos (x * 1000000000); y = pos (y * 1000000000) }

-- a TSP, with points in the plane or weights below the diagonal
abbrev pub tsp : List ℕ → ℕ → WeightsAre → ProblemAnswer
tsp name n weights = Some (Ok (record { name = name; n = n; weights = weights; routing = None }))

-- a CVRP, which also has the capacity of a vehicle, the demands and the depot
abbrev pub cvrp : List ℕ → ℕ → WeightsAre → ℕ → List ℕ → ℕ → ProblemAnswer
cvrp name n weights capacity demand depot =
    Some (Ok (record {
      name = name;
      n = n;
      weights = weights;
      routing =
          Some (record { capacity = capacity; demand = demand; depot = depot });
    }))

-- a TSP of two points, with this distance type
abbrev pub two_places : List ℕ → List ℕ
two_places type =
    codes "TYPE : TSP\nDIMENSION : 2\nEDGE_WEIGHT_TYPE : " ++ type ++ codes "\nNODE_COORD_SECTION\n1 0 0\n2 3 4\n"

abbrev pub two_places_are : PlaneKind → ProblemAnswer
two_places_are kind = tsp (codes "Unnamed") 2 (Points kind (place 0 0 ∷ place 3 4 ∷ []))

-- all headers and sections that exist; with explicit weights, the coordinates do not count
abbrev pub everything : List ℕ
everything =
    codes "NAME : all\nCOMMENT : c\nTYPE : CVRP\nCOMMENT : d\nDIMENSION : 2\nCAPACITY : 3\n"
    ++ codes "EDGE_WEIGHT_TYPE : EXPLICIT\nEDGE_WEIGHT_FORMAT : UPPER_ROW\n"
    ++ codes "NODE_COORD_TYPE : TWOD_COORDS\nDISPLAY_DATA_TYPE : TWOD_DISPLAY\n"
    ++ codes "NODE_COORD_SECTION\n1 0 0\n2 3 4\nEDGE_WEIGHT_SECTION\n7\n"
    ++ codes "DEMAND_SECTION\n2 3\n1 0\nDEPOT_SECTION\n1\n-1\n-1\nDISPLAY_DATA_SECTION\n1 x y\n2 ? :\nEOF\n"

abbrev pub problems : List (List ℕ × ProblemAnswer)
problems = (
  codes
      "NAME : p\nTYPE : TSP\nDIMENSION : 3\nEDGE_WEIGHT_TYPE : EUC_2D\nNODE_COORD_SECTION\n1 0 0\n2 3 0\n3 0 4\nEOF\n",
  tsp (codes "p") 3 (Points planes.Euc2d (place 0 0 ∷ place 3 0 ∷ place 0 4 ∷ [])),
)
    ∷ (two_places (codes "EUC_2D"), two_places_are planes.Euc2d)
    ∷ (two_places (codes "CEIL_2D"), two_places_are planes.Ceil2d)
    ∷ (two_places (codes "MAN_2D"), two_places_are planes.Man2d)
    ∷ (two_places (codes "MAX_2D"), two_places_are planes.Max2d)
    ∷ (two_places (codes "att (pseudo-Euclidean)"), two_places_are planes.Att)
    -- nodes in any order, numbers on any lines, decimal coordinates
    ∷ (
      codes
          "EDGE_WEIGHT_TYPE: MAX_2D\nDimension 2\n\ttype:tsp\r\nnode_coord_section: 2 .5\n\n-0.0000000019 1\n1e1 2.\n",
      tsp (codes "Unnamed") 2 (Points planes.Max2d
          (record { x = pos 10000000000; y = pos 2000000000 } ∷ record { x = pos 500000000; y = negsuc 0 } ∷ [])),
    )
    ∷ (
      codes "TYPE : TSP\nDIMENSION : 4\nEDGE_WEIGHT_TYPE : EXPLICIT\nEDGE_WEIGHT_FORMAT : UPPER_ROW\n"
          ++ codes "EDGE_WEIGHT_SECTION\n1 2 3 4 5 6\nEOF\n",
      tsp (codes "Unnamed") 4 (Lower (1 ∷ 2 ∷ 4 ∷ 3 ∷ 5 ∷ 6 ∷ [])),
    )
    -- a depot that is not the first node
    ∷ (
      codes "NAME : v\nTYPE : CVRP\nDIMENSION : 3\nEDGE_WEIGHT_TYPE : EUC_2D\nCAPACITY : 2\n"
          ++ codes "NODE_COORD_SECTION\n1 10 0\n2 0 0\n3 11 0\n"
          ++ codes "DEMAND_SECTION\n1 1\n2 0\n3 1\nDEPOT_SECTION\n2\n-1\nEOF\n",
      cvrp (codes "v") 3 (Points planes.Euc2d (place 10 0 ∷ place 0 0 ∷ place 11 0 ∷ [])) 2 (1 ∷ 0 ∷ 1 ∷ []) 2,
    )
    ∷ (
      everything,
      cvrp (codes "all") 2 (Lower (7 ∷ [])) 3 (0 ∷ 3 ∷ []) 1,
    )
    ∷ []

-- a problem of two nodes whose rows begin on line 5
abbrev pub plane : List ℕ → List ℕ
plane rows = codes "TYPE : TSP\nDIMENSION : 2\nEDGE_WEIGHT_TYPE : EUC_2D\nNODE_COORD_SECTION\n" ++ rows

-- explicit weights of three nodes in a full matrix, whose rows begin on line 6
abbrev pub full_matrix : List ℕ → List ℕ
full_matrix rows =
    codes
    "TYPE : TSP\nDIMENSION : 3\nEDGE_WEIGHT_TYPE : EXPLICIT\nEDGE_WEIGHT_FORMAT : FULL_MATRIX\nEDGE_WEIGHT_SECTION\n"
    ++ rows

-- a CVRP of two nodes, whose sections after the coordinates begin on line 8
abbrev pub routing : List ℕ → List ℕ
routing rest =
    codes "TYPE : CVRP\nDIMENSION : 2\nCAPACITY : 5\nEDGE_WEIGHT_TYPE : EUC_2D\nNODE_COORD_SECTION\n1 0 0\n2 1 0\n"
    ++ rest

abbrev pub problem_beginnings : List (List ℕ × ProblemAnswer)
problem_beginnings =
    (codes "", undecided)
    ∷ (codes "NAME : p\nTYPE : ATSP", undecided)
    ∷ (codes "NAME : p\nTYPE : ATSP\n", fault 2 kinds.Unsupported)
    ∷ (codes "NODE_COORD_SECTION", undecided)
    ∷ (codes "NODE_COORD_SECTION:", fault 1 (kinds.Missing words.Type))
    ∷ (plane (codes ""), undecided)
    ∷ (plane (codes "1 0 0\n"), undecided)
    -- a number can continue
    ∷ (plane (codes "1 0 0\n1"), undecided)
    ∷ (plane (codes "1 0 0\n1 "), fault 6 kinds.BadNode)
    ∷ (plane (codes "1 1.2.3"), undecided)
    ∷ (plane (codes "1 1.2.3\t"), fault 5 kinds.BadNumber)
    ∷ (full_matrix (codes "0 3 5\n4"), undecided)
    ∷ (full_matrix (codes "0 3 5\n4\n"), fault 7 (kinds.NotSymmetric 1 2))
    -- more can follow a section
    ∷ (plane (codes "1 0 0\n2 3 4\n"), undecided)
    ∷ (plane (codes "1 0 0\n2 3 4\nEOF"), undecided)
    ∷ (plane (codes "1 0 0\n2 3 4\nEOF "), two_places_are planes.Euc2d)
    ∷ (plane (codes "1 0 0\n2 3 4 x"), fault 6 kinds.TrailingData)
    -- the list of a depot ends with -1, and one more -1 can follow
    ∷ (routing (codes "DEPOT_SECTION\n1 2"), undecided)
    ∷ (routing (codes "DEPOT_SECTION\n1 2 "), fault 9 kinds.BadDepot)
    ∷ (routing (codes "DEPOT_SECTION\n1 -1 -"), undecided)
    ∷ (routing (codes "DEPOT_SECTION\n1 -1 x"), fault 9 kinds.TrailingData)
    ∷ []
