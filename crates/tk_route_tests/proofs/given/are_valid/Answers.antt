use Rattle.std.proofs.Common.{◌≡◌, List, ℕ, length, arith, subst, Vec, Global}
use Rattle.std.proofs.lemmas.Bool.{eqb-true}
use Rattle.std.proofs.lemmas.List.{length-map}
use Rattle.tk_lists.specs.Solution.{lists_of}
use Rattle.tk_routes.specs.Cvrps.{instance_of}
use Rattle.tk_routes.specs.Routes.{AreRoutes}
use Rattle.tk_routes.specs.RouteVerdicts.{IsRouteVerdict, filled_of}
use Rattle.tk_route_tests.proofs.FilledRoutes.{filled_all}
use Rattle.tk_route_tests.proofs.given.are_valid.Goals as goal

pub returns-in-Valid : goal.returns-in-Valid
returns-in-Valid c = λ e.
    let i = instance_of c.args.cvrp.now in
    let routes : List (List ℕ) = lists_of c.args.text.now.routes.items in
    let reported = subst (λ v. IsRouteVerdict i routes c.args.text.now.cost v) c.in-Valid.is c.in_ok-routes.ensures in
    let size : length (filled_of routes) ≡ length routes =
    omega (
      arith,
      reported.1,
      eqb-true c.in-Valid.routes c.len.result e,
      c.len.ensures,
      c.args.text.now.routes.ok.0,
      length-map c.args.text.now.routes.items (λ (r : Vec ℕ Global). r.items),
    ) in
    subst (λ (v : List (List ℕ)). AreRoutes i v) (filled_all routes size) reported.0
