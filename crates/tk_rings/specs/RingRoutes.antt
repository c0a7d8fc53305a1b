-- Rings of routes. The elements 1 to k of a ring are the customers, and those after k are copies of the depot.
--     ring_of i routes      the ring of routes
--     demands_of i      the demands of the customers
--     ring_nodes i copies      the node of each element
--     ring_distance i copies      the distances between the elements
--     paths_of k ring      the customers between two copies, for each copy and the next one
--     AreRoutesOf k ring routes      the routes that are read off a ring
use Rattle.std.specs.Prelude.{ℕ, ◌+◌, ◌-◌, List, [], ◌∷◌, ◌++◌, length, map, reverse, replicate, nat_lt, nat_le}
use Rattle.std.specs.Prelude.{if◌then◌else◌, slice_index, IsPermutation}
use Rattle.std.specs.List.Sorted.{IsNonDecreasingBy}
use Rattle.tk_descent.specs.Awake.{one_to}
use Rattle.tk_routes.specs.ImprovedRoutes.{place_distance}
use Rattle.tk_routes.specs.Instance.{Instance, customer_count, demand_of, node_of}
use Rattle.tk_routes.specs.RouteVerdicts.{filled_of}

-- a copy of the depot before each route, and one after the last; the copies are numbered from `copy` on
abbrev pub ring_from : ℕ → List (List ℕ) → List ℕ
ring_from copy [] = copy ∷ []
ring_from copy (route ∷ routes) = copy ∷ (route ++ ring_from (copy + 1) routes)

abbrev pub ring_of : Instance → List (List ℕ) → List ℕ
ring_of i routes = ring_from (customer_count i + 1) routes

-- customers, and a copy of the depot more than there are routes
abbrev pub ring_size : Instance → List (List ℕ) → ℕ
ring_size i routes = customer_count i + (length routes + 1)

-- the demands of the customers, by which a ring fits or not
abbrev pub demands_of : Instance → List ℕ
demands_of i = map (demand_of i) (one_to (customer_count i))

-- the nodes of the customers, and then the depot's
abbrev pub ring_nodes : Instance → ℕ → List ℕ
ring_nodes i copies = map (node_of i.depot) (one_to (customer_count i)) ++ replicate copies i.depot

abbrev pub ring_distance : Instance → ℕ → ℕ → ℕ → ℕ
ring_distance i copies = place_distance i.distance (ring_nodes i copies)

-- the paths that end before a copy of the depot; the first of them begins with `path`
abbrev pub paths_from : ℕ → List ℕ → List ℕ → List (List ℕ)
paths_from k path [] = []
paths_from k path (c ∷ cs) = if nat_lt k c then path ∷ paths_from k [] cs else paths_from k (path ++ c ∷ []) cs

-- the elements behind the first copy of the depot, then those before it, and the copy
abbrev pub behind_copy : ℕ → List ℕ → List ℕ → List ℕ
behind_copy k before [] = before
behind_copy k before (c ∷ cs) = if nat_lt k c then cs ++ before ++ c ∷ [] else behind_copy k (before ++ c ∷ []) cs

-- the customers between two copies, for each copy and the next one
abbrev pub paths_of : ℕ → List ℕ → List (List ℕ)
paths_of k ring = paths_from k [] (behind_copy k [] ring)

abbrev pub first_of : List ℕ → ℕ
first_of route = slice_index route 0

-- a path in the direction in which it does not end with a smaller customer than it begins with
abbrev pub turned_route : List ℕ → List ℕ
turned_route path =
    if nat_le (first_of path) (slice_index path (length path - 1)) then path else reverse path

-- the paths with a customer, each so turned, in the order of their first customers
pub record AreRoutesOf (k : ℕ) (ring : List ℕ) (routes : List (List ℕ)) : Type 0 where
  pub read : IsPermutation (map turned_route (filled_of (paths_of k ring))) routes
  pub order : IsNonDecreasingBy first_of routes
