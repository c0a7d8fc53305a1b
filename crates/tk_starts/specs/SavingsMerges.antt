-- The lists of the savings algorithm (G. Clarke and J. W. Wright, 1964).
use Rattle.std.specs.Prelude.{◌≡◌, ◌≢◌, ◌≤◌, ℕ, List, [], ◌∷◌, All, Vec, flat_map, map, replicate, sum_by}
use Rattle.std.specs.declared.alloc.Global.{Global}
use Rattle.tk_distance.specs.Cities.{IsCity}
use Rattle.tk_distance.specs.declared.metric.Metric as metrics
use Rattle.tk_near.specs.Near.{NearLists, near_of}
use Rattle.tk_starts.specs.SavingPairs.{AreSavingPairs}
use Rattle.tk_starts.specs.Joints.{joints, ArePartPaths}
use Rattle.tk_starts.specs.PathEnds.{load_of}
use Rattle.tk_starts.specs.declared.merges.pairs.Pair.{Pair}

-- the lists are the parts into which the joints among the candidate pairs divide the cities other than the hub
abbrev pub AreSavingsLists : (ℕ → ℕ → ℕ) → (ℕ → List ℕ) → ℕ → ℕ → (ℕ → ℕ) → ℕ → List (List ℕ) → Type 0
AreSavingsLists dist near n hub load capacity lists =
    (pairs : List Pair) × (AreSavingPairs dist near n hub pairs
    × ArePartPaths n hub (joints load n capacity [] pairs) lists)

-- the load of each city except the hub is within the capacity
abbrev pub AreLight : ℕ → ℕ → (ℕ → ℕ) → ℕ → Type 0
AreLight n hub load capacity = (c : ℕ) → IsCity n c → c ≢ hub → load c ≤ capacity

-- the lists for the distances of a metric, near lists, and the load of each city
abbrev pub AreMerged : {M : Type 0} → metrics.Ghosts M → M → NearLists → ℕ → List ℕ → ℕ → List (Vec ℕ Global) → Type 0
AreMerged table metric near hub loads capacity lists =
    AreSavingsLists (table.distance metric) (near_of near) (table.size_of metric) hub (load_of loads) capacity
    (map (λ list. list.items) lists)

-- the load of each list is within the capacity
abbrev pub AreWithin : List ℕ → ℕ → List (Vec ℕ Global) → Type 0
AreWithin loads capacity lists = All (λ list. sum_by (load_of loads) list.items ≤ capacity) lists

-- city 1, followed by the lists around it without loads
abbrev pub IsMergedTour : {M : Type 0} → metrics.Ghosts M → M → NearLists → List ℕ → Type 0
IsMergedTour table metric near tour = (lists : List (List ℕ))
    × (AreSavingsLists (table.distance metric) (near_of near) (table.size_of metric) 1
    (load_of (replicate (table.size_of metric) 0)) 0 lists × (tour ≡ 1 ∷ flat_map (λ list. list) lists))

-- the distances and the near lists determine the pairs
abbrev pub PairsAgree : Type 0
PairsAgree = (dist : ℕ → ℕ → ℕ) (near : ℕ → List ℕ) (n hub : ℕ) (pairs others : List Pair) →
    AreSavingPairs dist near n hub pairs → AreSavingPairs dist near n hub others → pairs ≡ others

-- together with the loads and the capacity, they determine the lists: their order, and the order of the cities in each
abbrev pub ListsAgree : Type 0
ListsAgree =
    (dist : ℕ → ℕ → ℕ) (near : ℕ → List ℕ) (n hub : ℕ) (load : ℕ → ℕ) (capacity : ℕ) (lists others : List (List ℕ)) →
    AreSavingsLists dist near n hub load capacity lists → AreSavingsLists dist near n hub load capacity others →
    lists ≡ others
