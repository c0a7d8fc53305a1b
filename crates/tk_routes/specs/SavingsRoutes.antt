-- The routes of the savings algorithm (G. Clarke and J. W. Wright, 1964), with the depot as the hub.
use Rattle.std.specs.Prelude.{ℕ, List, map}
use Rattle.tk_starts.specs.PathEnds.{load_of}
use Rattle.tk_starts.specs.SavingsMerges.{AreSavingsLists}
use Rattle.tk_routes.specs.Instance.{Instance, node_of}

-- the nodes of the routes are the lists of the savings algorithm
abbrev pub AreSavingsRoutes : Instance → (ℕ → List ℕ) → List (List ℕ) → Type 0
AreSavingsRoutes i near routes =
    AreSavingsLists i.distance near i.size i.depot (load_of i.demands) i.capacity (map (map (node_of i.depot)) routes)
