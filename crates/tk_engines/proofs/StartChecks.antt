-- Verdicts on the routes of an initial solution.
use Rattle.std.proofs.Common.{◌≡◌, None}
use Rattle.tk_lists.specs.Solution.{Solution}
use Rattle.tk_routes.specs.Instance.{Instance}
use Rattle.tk_routes.specs.RouteVerdicts.{IsRouteVerdict}
use Rattle.tk_routes.specs.declared.checking.verdict.RouteVerdict.{RouteVerdict}
use Rattle.tk_routes.specs.declared.checking.verdict.RouteVerdict.TheVariants.{Valid}
use Rattle.tk_engines.specs.Between.{AreGivenRoutes, route_fault}

-- routes without a fault are valid
pub valid_start : (i : Instance) (solution : Solution) (v : RouteVerdict) →
    IsRouteVerdict i solution.0 solution.1 v → route_fault v ≡ None → AreGivenRoutes i solution
valid_start i solution (Valid routes cost) is none = is.0
valid_start i solution _ is none = cc none
