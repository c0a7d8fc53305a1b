use Rattle.std.proofs.Common.{◌≡◌, ℕ, Vec, Global, length, pos, arith}
use Rattle.std.specs.Prelude.{map}
use Rattle.std.specs.List.{All}
use Rattle.std.proofs.lemmas.Int.{ints}
use Rattle.tk_distance.specs.Tables.{table_distance-same}
use Rattle.tk_routes.specs.Cvrps.{instance_of}
use Rattle.tk_routes.specs.Routes.{IsLight, routes_cost}
use Rattle.tk_routes.specs.RouteVerdicts.{filled_of}
use Rattle.tk_routes.proofs.FilledRoutes.{AreRoutes-marked, routes_cost-filled}
use Rattle.tk_routes.proofs.checking.check.judge.Goals as goal

pub returns-then-text-cost : goal.returns-then-text-cost
returns-then-text-cost c =
    let i = instance_of c.args.cvrp.now in
    let routes = map (λ (r : Vec ℕ Global). r.items) c.args.text.now.routes.items in
    let light : All (IsLight i) routes = rw c.deref.ensures.value at c.in_default.ensures in
    let count : c.count_filled.result ≡ length (filled_of routes) =
    rw c.deref-then-text-cost.ensures.value at c.count_filled.ensures in
    let cost : c.cost_of-cost.result ≡ pos (routes_cost i routes) =
    rw c.deref-2.ensures.value at c.cost_of-cost.ensures in
    let filled = routes_cost-filled i routes (table_distance-same c.args.cvrp.now.table) in (
      AreRoutes-marked i c.args.served.now routes c.requires.size c.requires.served light
          c.in_default-first_missing.ensures,
      count,
      omega (arith, ints, cost, filled),
      omega (arith, ints, c.if-text-cost.true),
    )

pub returns-else-text-cost : goal.returns-else-text-cost
returns-else-text-cost c =
    let i = instance_of c.args.cvrp.now in
    let routes = map (λ (r : Vec ℕ Global). r.items) c.args.text.now.routes.items in
    let light : All (IsLight i) routes = rw c.deref.ensures.value at c.in_default.ensures in
    let cost : c.cost_of-cost.result ≡ pos (routes_cost i routes) =
    rw c.deref-2.ensures.value at c.cost_of-cost.ensures in
    let filled = routes_cost-filled i routes (table_distance-same c.args.cvrp.now.table) in (
      AreRoutes-marked i c.args.served.now routes c.requires.size c.requires.served light
          c.in_default-first_missing.ensures,
      omega (arith, ints),
      omega (arith, ints, cost, filled),
      (λ same. omega (arith, ints, same, c.if-text-cost.false)),
    )
