-- Examples of problem texts that are rejected, with their faults and the lines of these.
use Rattle.std.specs.Prelude.{ℕ, List, [], ◌∷◌, ◌++◌, codes, replicate}
use Rattle.tk_text.specs.declared.Keyword.TheVariants as words
use Rattle.tk_text.specs.declared.TextKind.TheVariants as kinds
use Rattle.tk_tests.specs.ProblemExamples.{ProblemAnswer, fault, plane, full_matrix, routing}

-- a problem of two nodes, whose further headers begin on line 3
abbrev pub headed : List ℕ → List ℕ
headed rest = codes "TYPE : TSP\nDIMENSION : 2\n" ++ rest

abbrev pub header_faults : List (List ℕ × ProblemAnswer)
header_faults =
    (codes "\n\nFOO : 1\n", fault 3 kinds.UnknownKeyword)
    ∷ (codes "NAMES : x\n", fault 1 kinds.UnknownKeyword)
    ∷ (codes "Route #1: 1\n", fault 1 kinds.UnknownKeyword)
    ∷ (codes "TYPE : TSP\nTYPE : TSP\n", fault 2 kinds.Repeated)
    ∷ (codes "NAME\nname\n", fault 2 kinds.Repeated)
    ∷ (headed (codes "DIMENSION : 3\n"), fault 3 kinds.Repeated)
    ∷ (codes "CAPACITY : 1\nCAPACITY : 1\n", fault 2 kinds.Repeated)
    ∷ (codes "EDGE_WEIGHT_TYPE : ATT\nEDGE_WEIGHT_TYPE : ATT\n", fault 2 kinds.Repeated)
    ∷ (codes "EDGE_WEIGHT_FORMAT : FUNCTION\nEDGE_WEIGHT_FORMAT : FUNCTION\n", fault 2 kinds.Repeated)
    ∷ (codes "NODE_COORD_TYPE : NO_COORDS\nNODE_COORD_TYPE : NO_COORDS\n", fault 2 kinds.Repeated)
    ∷ (codes "DISPLAY_DATA_TYPE\nDISPLAY_DATA_TYPE\n", fault 2 kinds.Repeated)
    ∷ (codes "TYPE : TOUR\n", fault 1 kinds.Unsupported)
    ∷ (codes "TYPE :\n", fault 1 kinds.Unsupported)
    ∷ (codes "EDGE_WEIGHT_TYPE : GEO\n", fault 1 kinds.Unsupported)
    ∷ (codes "EDGE_WEIGHT_FORMAT : UPPER\n", fault 1 kinds.Unsupported)
    ∷ (codes "NODE_COORD_TYPE : THREED_COORDS\n", fault 1 kinds.Unsupported)
    ∷ (codes "DISTANCE : 5\n", fault 1 kinds.Unsupported)
    ∷ (codes "SERVICE_TIME : 5\n", fault 1 kinds.Unsupported)
    ∷ (codes "VEHICLES : 5\n", fault 1 kinds.Unsupported)
    ∷ (codes "DIMENSION : two\n", fault 1 kinds.BadNumber)
    ∷ (codes "DIMENSION :\n", fault 1 kinds.BadNumber)
    ∷ (codes "DIMENSION : " ++ replicate 65 49, fault 1 kinds.BadNumber)
    ∷ (codes "CAPACITY : 1.5\n", fault 1 kinds.BadNumber)
    ∷ (codes "DIMENSION : 1\n", fault 1 kinds.OutOfLimit)
    ∷ (codes "DIMENSION : -5\n", fault 1 kinds.OutOfLimit)
    ∷ (codes "DIMENSION : 100001\n", fault 1 kinds.OutOfLimit)
    ∷ (codes "CAPACITY : 0\n", fault 1 kinds.OutOfLimit)
    ∷ (codes "CAPACITY : 2000000001\n", fault 1 kinds.OutOfLimit)
    ∷ (codes "TYPE : TSP\n-1\n", fault 2 kinds.TrailingData)
    ∷ (codes "_NAME : x\n", fault 1 kinds.TrailingData)
    ∷ (codes "NAME : " ++ replicate 1025 120, fault 1 kinds.TooLong)
    ∷ (replicate 65 65, fault 1 kinds.TooLong)
    ∷ []

abbrev pub place_faults : List (List ℕ × ProblemAnswer)
place_faults =
    (codes "NODE_COORD_SECTION\n", fault 1 (kinds.Missing words.Type))
    ∷ (codes "TYPE : TSP\nNODE_COORD_SECTION\n", fault 2 (kinds.Missing words.Dimension))
    ∷ (plane (codes "1 0 0\n2 1 1\nNODE_COORD_SECTION\n"), fault 7 kinds.Repeated)
    ∷ (plane (codes "1 0 0\n2 1\nEOF\n"), fault 7 kinds.Truncated)
    ∷ (plane (codes "1 0 0\n\nEdge_Weight_Type: 5"), fault 7 kinds.Truncated)
    ∷ (plane (codes "1 0 0\n2 1 \n"), fault 7 kinds.Truncated)
    ∷ (plane (codes ""), fault 5 kinds.Truncated)
    ∷ (plane (codes "1.0 0 0\n"), fault 5 kinds.BadNumber)
    ∷ (plane (codes "1 0 0,5\n"), fault 5 kinds.BadNumber)
    ∷ (plane (codes "1 0 0\n2 1 1000000000.000000001\n"), fault 6 kinds.OutOfLimit)
    ∷ (plane (codes "1 -1e10 0\n"), fault 5 kinds.OutOfLimit)
    ∷ (plane (codes "0 0 0\n"), fault 5 kinds.BadNode)
    ∷ (plane (codes "1 0 0\n3 0 0\n"), fault 6 kinds.BadNode)
    ∷ (plane (codes "2 0 0\n2 0 0\n"), fault 6 kinds.BadNode)
    ∷ (plane (codes "1 0 0\n2 1 1 3\n"), fault 6 kinds.TrailingData)
    ∷ (plane (codes "1 0 0\n2 1 1 EOF\n"), fault 6 kinds.TrailingData)
    ∷ (plane (codes "1 0 0\n2 1 1\n3 2 2\n"), fault 7 kinds.TrailingData)
    ∷ (plane (codes "1 0 " ++ replicate 65 48), fault 5 kinds.TooLong)
    ∷ (headed (codes "EOF\n"), fault 3 (kinds.Missing words.EdgeWeightType))
    ∷ (headed (codes "EDGE_WEIGHT_TYPE : ATT\n\n"), fault 5 (kinds.Missing words.NodeCoordSection))
    ∷ (headed (codes "EDGE_DATA_SECTION\n"), fault 3 kinds.Unsupported)
    ∷ (headed (codes "FIXED_EDGES_SECTION\n"), fault 3 kinds.Unsupported)
    ∷ (codes "TOUR_SECTION\n", fault 1 kinds.Unsupported)
    ∷ (headed (codes "DISPLAY_DATA_SECTION\n1 2 3 4 EOF 6\n"), fault 4 kinds.Truncated)
    ∷ (headed (codes "DISPLAY_DATA_SECTION\n1 2 3 4 5 6 7\n"), fault 4 kinds.TrailingData)
    ∷ []

abbrev pub weight_faults : List (List ℕ × ProblemAnswer)
weight_faults =
    (full_matrix (codes "0 3 5\n4 0 6\n5 6 0\n"), fault 7 (kinds.NotSymmetric 1 2))
    ∷ (full_matrix (codes "0 3 5\n3 0 6\n5 7 0\n"), fault 8 (kinds.NotSymmetric 2 3))
    ∷ (full_matrix (codes "x 3 5\n"), fault 6 kinds.BadNumber)
    ∷ (full_matrix (codes "0 3 5\n3.0 0 6\n"), fault 7 kinds.BadNumber)
    ∷ (full_matrix (codes "0 3 -5\n"), fault 6 kinds.OutOfLimit)
    ∷ (full_matrix (codes "0 4000000001 5\n"), fault 6 kinds.OutOfLimit)
    ∷ (full_matrix (codes "0 3 5\n3 0 6\n5 6\nEOF\n"), fault 9 kinds.Truncated)
    ∷ (full_matrix (codes "0 3 5\n3 0 6\n5 6 0 0\n"), fault 8 kinds.TrailingData)
    ∷ (full_matrix (codes "0 3 5\n3 0 6\n5 6 0\n0\n"), fault 9 kinds.TrailingData)
    ∷ (headed (codes "EDGE_WEIGHT_SECTION\n"), fault 3 (kinds.Missing words.EdgeWeightType))
    ∷ (
      headed (codes "EDGE_WEIGHT_TYPE : EXPLICIT\nEDGE_WEIGHT_SECTION\n"),
      fault 4 (kinds.Missing words.EdgeWeightFormat),
    )
    ∷ (headed (codes "EDGE_WEIGHT_TYPE : EXPLICIT\n"), fault 4 (kinds.Missing words.EdgeWeightSection))
    ∷ (
      headed (codes "EDGE_WEIGHT_TYPE : ATT\nEDGE_WEIGHT_FORMAT : UPPER_ROW\nEDGE_WEIGHT_SECTION\n"),
      fault 5 kinds.Unsupported,
    )
    ∷ (
      headed (codes "EDGE_WEIGHT_TYPE : EXPLICIT\nEDGE_WEIGHT_FORMAT : FUNCTION\nEDGE_WEIGHT_SECTION\n"),
      fault 5 kinds.Unsupported,
    )
    ∷ []

abbrev pub routing_faults : List (List ℕ × ProblemAnswer)
routing_faults = (
  codes "TYPE : CVRP\nDIMENSION : 2\nEDGE_WEIGHT_TYPE : ATT\nNODE_COORD_SECTION\n1 0 0\n2 0 0\n",
  fault 7 (kinds.Missing words.Capacity),
)
    ∷ (routing (codes ""), fault 8 (kinds.Missing words.DemandSection))
    ∷ (routing (codes "DEMAND_SECTION\n1 0\n2 5\n"), fault 11 (kinds.Missing words.DepotSection))
    ∷ (routing (codes "DEMAND_SECTION\n1 0\n1 5\n"), fault 10 kinds.BadNode)
    ∷ (routing (codes "DEMAND_SECTION\n1 x\n"), fault 9 kinds.BadNumber)
    ∷ (routing (codes "DEMAND_SECTION\n1 -1\n"), fault 9 kinds.OutOfLimit)
    ∷ (routing (codes "DEMAND_SECTION\n1 2000000001\n"), fault 9 kinds.OutOfLimit)
    ∷ (routing (codes "DEMAND_SECTION\n1 0\n2\nDEPOT_SECTION\n"), fault 11 kinds.Truncated)
    ∷ (routing (codes "DEPOT_SECTION\n0\n"), fault 9 kinds.BadDepot)
    ∷ (routing (codes "DEPOT_SECTION\n3\n"), fault 9 kinds.BadDepot)
    ∷ (routing (codes "DEPOT_SECTION\n1 2\n-1\n"), fault 9 kinds.BadDepot)
    ∷ (routing (codes "DEPOT_SECTION\n\n-1\n"), fault 10 kinds.BadDepot)
    ∷ (routing (codes "DEPOT_SECTION\nx\n"), fault 9 kinds.BadNumber)
    ∷ (routing (codes "DEPOT_SECTION\n1 2x\n"), fault 9 kinds.BadNumber)
    ∷ (routing (codes "DEPOT_SECTION\n"), fault 9 kinds.Truncated)
    ∷ (routing (codes "DEPOT_SECTION\nEOF\n"), fault 9 kinds.Truncated)
    ∷ (routing (codes "DEPOT_SECTION\n1\nDEMAND_SECTION\n"), fault 10 kinds.Truncated)
    ∷ (routing (codes "DEPOT_SECTION\n1 -1 2\n"), fault 9 kinds.TrailingData)
    ∷ (routing (codes "DEPOT_SECTION\n1 -1\nDEPOT_SECTION\n"), fault 10 kinds.Repeated)
    ∷ (routing (codes "DEMAND_SECTION\n1 1\n2 5\nDEPOT_SECTION\n1\n-1\nEOF\n"), fault 14 kinds.BadDepot)
    ∷ (routing (codes "DEMAND_SECTION\n1 0\n2 6\nDEPOT_SECTION\n1\n-1\n-1\n"), fault 15 (kinds.DemandOverCapacity 2))
    ∷ (headed (codes "DEMAND_SECTION\n"), fault 3 kinds.Unsupported)
    ∷ (headed (codes "DEPOT_SECTION\n"), fault 3 kinds.Unsupported)
    ∷ []

-- of several faults, the first one in the text counts, and at the same position the first one in a fixed order
abbrev pub fault_orders : List (List ℕ × ProblemAnswer)
fault_orders =
    (codes "TYPE : ATSP\nFOO\n", fault 1 kinds.Unsupported)
    ∷ (codes "FOO\nTYPE : ATSP\n", fault 1 kinds.UnknownKeyword)
    -- TooLong before Repeated before Unsupported and BadNumber
    ∷ (codes "NAME : a\nNAME : " ++ replicate 1025 120, fault 2 kinds.TooLong)
    ∷ (codes "TYPE : TSP\nTYPE : ATSP\n", fault 2 kinds.Repeated)
    ∷ (codes "DIMENSION : 2\nDIMENSION : x\n", fault 2 kinds.Repeated)
    -- TYPE before DIMENSION
    ∷ (codes "DEPOT_SECTION\n", fault 1 (kinds.Missing words.Type))
    -- Missing before Unsupported, but Unsupported before Missing for a section that is never supported
    ∷ (codes "DIMENSION : 2\nEDGE_WEIGHT_TYPE : ATT\nEDGE_WEIGHT_SECTION\n", fault 3 (kinds.Missing words.Type))
    ∷ (headed (codes "EDGE_WEIGHT_TYPE : ATT\nEDGE_WEIGHT_SECTION\n"), fault 4 (kinds.Missing words.EdgeWeightFormat))
    ∷ (codes "EDGE_DATA_SECTION\n", fault 1 kinds.Unsupported)
    -- Unsupported before OutOfLimit
    ∷ (codes "TYPE : TSP\nDIMENSION : 5001\nDEMAND_SECTION\n", fault 3 kinds.Unsupported)
    ∷ (codes "TYPE : CVRP\nDIMENSION : 5001\nDEMAND_SECTION\n", fault 3 kinds.OutOfLimit)
    -- TooLong before BadNumber, Truncated before the faults of a number, OutOfLimit before NotSymmetric
    ∷ (plane (replicate 65 120), fault 5 kinds.TooLong)
    ∷ (plane (codes "EOF:"), fault 5 kinds.Truncated)
    ∷ (full_matrix (codes "0 3 5\n-3 0 6\n"), fault 7 kinds.OutOfLimit)
    -- at the end, in this order: missing headers and sections, a demand of the depot, the lowest node over the capacity
    ∷ (codes "CAPACITY : 5\n", fault 2 (kinds.Missing words.Type))
    ∷ (codes "TYPE : CVRP\nDIMENSION : 2\n", fault 3 (kinds.Missing words.EdgeWeightType))
    ∷ (codes "TYPE : CVRP\nDIMENSION : 2\nEDGE_WEIGHT_TYPE : ATT\n", fault 4 (kinds.Missing words.NodeCoordSection))
    ∷ (routing (codes "DEMAND_SECTION\n1 9\n2 8\nDEPOT_SECTION\n1 -1\n"), fault 13 kinds.BadDepot)
    ∷ (routing (codes "DEMAND_SECTION\n1 9\n2 0\nDEPOT_SECTION\n2 -1\n"), fault 13 (kinds.DemandOverCapacity 1))
    ∷ []

-- lengths at and over their limits: the value of a header, a name, a word, a token
abbrev pub length_faults : List (List ℕ × ProblemAnswer)
length_faults =
    (codes "COMMENT:" ++ replicate 4095 120, fault 1 (kinds.Missing words.Type))
    ∷ (codes "COMMENT" ++ replicate 4097 32, fault 1 kinds.TooLong)
    ∷ (codes "VEHICLES" ++ replicate 4097 32, fault 1 kinds.TooLong)
    ∷ (codes "NAME : " ++ replicate 1024 120, fault 1 (kinds.Missing words.Type))
    ∷ (codes "NAME : " ++ replicate 1025 120, fault 1 kinds.TooLong)
    ∷ (codes "NAME : " ++ replicate 1025 32, fault 1 (kinds.Missing words.Type))
    ∷ (replicate 64 65, fault 1 kinds.UnknownKeyword)
    ∷ (replicate 65 65, fault 1 kinds.TooLong)
    ∷ (plane (replicate 64 48), fault 5 kinds.BadNumber)
    ∷ (plane (replicate 65 48), fault 5 kinds.TooLong)
    ∷ []

-- numbers at their limits are not faults, so another fault is reported; explicit weights and routes are for at most
-- 5,000 nodes
abbrev pub at_limits : List (List ℕ × ProblemAnswer)
at_limits =
    (codes "DIMENSION : 2\n", fault 2 (kinds.Missing words.Type))
    ∷ (codes "DIMENSION : 100000\n", fault 2 (kinds.Missing words.Type))
    ∷ (codes "CAPACITY : 1\n", fault 2 (kinds.Missing words.Type))
    ∷ (codes "CAPACITY : 2000000000\n", fault 2 (kinds.Missing words.Type))
    ∷ (full_matrix (codes "999999999999999999 4000000000 0\n4000000000 x"), fault 7 kinds.BadNumber)
    ∷ (plane (codes "2 1000000000 -1e9\n1 x"), fault 6 kinds.BadNumber)
    ∷ (routing (codes "DEMAND_SECTION\n1 2000000000\n2 x"), fault 10 kinds.BadNumber)
    ∷ (routing (codes "DEMAND_SECTION\n1 0\n2 6\nDEPOT_SECTION\n1"), fault 12 (kinds.DemandOverCapacity 2))
    ∷ (codes "TYPE : CVRP\nDIMENSION : 5000\nDEMAND_SECTION\n", fault 4 kinds.Truncated)
    ∷ (codes "TYPE : CVRP\nDIMENSION : 5001\nDEMAND_SECTION\n", fault 3 kinds.OutOfLimit)
    ∷ (
      codes "TYPE : TSP\nDIMENSION : 5001\nEDGE_WEIGHT_TYPE : EXPLICIT\nEDGE_WEIGHT_FORMAT : UPPER_ROW\n"
          ++ codes "EDGE_WEIGHT_SECTION\n",
      fault 5 kinds.OutOfLimit,
    )
    ∷ []
