-- The ladder: savings routes over near lists of several lengths, of which the cheapest are chosen.
--     ladder others      the lengths of the near lists
--     IsSavings i s      savings routes over near lists of one length
--     IsLadderChoice i s      the cheapest of the ladder
use Rattle.std.specs.Prelude.{◌≡◌, ℕ, ◌-◌, ◌<◌, ◌≤◌, List, [], ◌∷◌, ◌++◌, map, min}
use Rattle.std.specs.List.{All}
use Rattle.tk_near.specs.Near.{NearLists, AreNearest, near_of}
use Rattle.tk_routes.specs.Instance.{Instance}
use Rattle.tk_routes.specs.Routes.{routes_cost}
use Rattle.tk_routes.specs.SavingsRoutes.{AreSavingsRoutes}

-- each near list has at most all other nodes
abbrev pub ladder : ℕ → List ℕ
ladder others = map (λ k. min k others) (3 ∷ 5 ∷ 8 ∷ 12 ∷ 20 ∷ 32 ∷ 50 ∷ 100 ∷ [])

-- routes, and the length of the near lists that they were made with
pub record Savings : Type 0 where
  pub candidates : ℕ
  pub routes : List (List ℕ)

-- the routes of the savings algorithm over near lists of this length
pub record IsSavings (i : Instance) (s : Savings) : Type 0 where
  pub near : NearLists
  pub size : near.size ≡ i.size
  pub width : near.width ≡ s.candidates
  pub nearest : AreNearest i.distance near
  pub merged : AreSavingsRoutes i (near_of near) s.routes

-- the first of the cheapest routes of a list: those before them are dearer, and none after them are cheaper
pub record IsFirstCheapest (i : Instance) (tried : List Savings) (s : Savings) : Type 0 where
  pub before : List Savings
  pub behind : List Savings
  pub stands : tried ≡ before ++ s ∷ behind
  pub dearer : All (λ other. routes_cost i s.routes < routes_cost i other.routes) before
  pub least : All (λ other. routes_cost i s.routes ≤ routes_cost i other.routes) behind

-- the cheapest of the ladder; of several, those of the shortest near lists
pub record IsLadderChoice (i : Instance) (s : Savings) : Type 0 where
  pub tried : List Savings
  pub each : All (IsSavings i) tried
  pub lengths : map (λ (t : Savings). t.candidates) tried ≡ ladder (i.size - 1)
  pub first : IsFirstCheapest i tried s
