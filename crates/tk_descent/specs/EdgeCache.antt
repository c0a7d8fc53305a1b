-- A cache of edge lengths.
use Rattle.std.specs.Prelude.{◌≡◌, ℕ, ◌+◌, ◌<◌, ◌==◌, ◌||◌, Bool, List, [], length, Some, None, slice_index_or, All}
use Rattle.tk_descent.specs.declared.candidate_cache.CachedDistance.{CachedDistance}
use Rattle.tk_descent.specs.declared.edge_cache.CachedEdges.{CachedEdges}
use Rattle.tk_descent.specs.declared.edge_cache.EdgeCache.{EdgeCache}

-- the entry has the distance to the city
abbrev pub knows : CachedEdges → ℕ → Bool
knows known city = city == known.one || city == known.other

-- the distances of an entry are those from the city
abbrev pub IsMeasured : (ℕ → ℕ → ℕ) → ℕ → CachedEdges → Type 0
IsMeasured distance city known =
    (0 < known.one → known.to_one ≡ distance city known.one)
    × (0 < known.other → known.to_other ≡ distance city known.other)

-- so are those of the entries of the cities 1, 2, ..
abbrev pub AreMeasured : (ℕ → ℕ → ℕ) → List CachedEdges → Type 0
AreMeasured distance steps =
    (k : ℕ) (d : CachedEdges) → k < length steps → IsMeasured distance (k + 1) (slice_index_or steps k d)

-- a distance between two cities that are not 0 is the distance
abbrev pub IsCached : (ℕ → ℕ → ℕ) → CachedDistance → Type 0
IsCached distance known = 0 < known.from → known.distance ≡ distance known.from known.to

-- the entries of the cities 1, 2, ..
abbrev pub edges_of : EdgeCache → List CachedEdges
edges_of cache = elim cache.lengths [ None ↦ [] | Some lengths ↦ lengths.edges.items ]

-- the distances to candidates
abbrev pub candidates_of : EdgeCache → List CachedDistance
candidates_of cache = elim cache.lengths [ None ↦ [] | Some lengths ↦ lengths.candidates.items ]

-- the entries of a cache are correct for these distances
abbrev pub AreTrueOf : (ℕ → ℕ → ℕ) → EdgeCache → Type 0
AreTrueOf distance cache = AreMeasured distance (edges_of cache) × All (IsCached distance) (candidates_of cache)
