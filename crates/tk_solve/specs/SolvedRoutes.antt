-- The result of a search for routes.
use Rattle.std.specs.Prelude.{◌≡◌, ℕ, ◌-◌, List, min}
use Rattle.tk_near.specs.Near.{NearLists, AreNearest, near_of}
use Rattle.tk_routes.specs.ImprovedRoutes.{AreImprovements}
use Rattle.tk_routes.specs.Instance.{Instance}
use Rattle.tk_routes.specs.Routes.{AreRoutes}
use Rattle.tk_routes.specs.SavingsRoutes.{AreSavingsRoutes}
use Rattle.tk_routes.specs.declared.solving.route_report.RouteReport.{RouteReport}

-- The routes of the savings algorithm over near lists of the nodes. Each route is then improved on its own, by a
-- descent with all its nodes awake. Each customer is on one route, and no load exceeds the capacity.
pub record AreSolved (i : Instance) (candidates segment : ℕ) (routes : List (List ℕ))
    (report : RouteReport) : Type 0 where
  pub near : NearLists
  pub nearest : AreNearest i.distance near
  pub size : near.size ≡ i.size
  pub width : near.width ≡ min candidates (i.size - 1)
  pub merged : List (List ℕ)
  pub savings : AreSavingsRoutes i (near_of near) merged
  pub improved : AreImprovements i candidates segment merged routes report
  pub valid : AreRoutes i routes
