use Rattle.std.proofs.Common.{◌≡◌, ℕ, ℤ, ◌≤◌, ◌≤ℤ◌, List, length, arith, pos}
use Rattle.std.specs.Prelude.{map}
use Rattle.std.proofs.lemmas.Int.{ints}
use Rattle.std.proofs.lemmas.List.{length-map}
use Rattle.tk_problem.specs.declared.limits.TheConstants.{CITY_LIMIT}
use Rattle.tk_distance.specs.Tables.{table_distance, table_distance-same, table_distance-limit}
use Rattle.tk_distance.specs.declared.table.Table.{Table}
use Rattle.tk_tour.proofs.Lengths.{way_back-end}
use Rattle.tk_routes.specs.Cvrps.{instance_of}
use Rattle.tk_routes.specs.Instance.{node_of}
use Rattle.tk_routes.specs.Routes.{route_length}
use Rattle.tk_routes.specs.declared.cvrp.Cvrp.{Cvrp}
use Rattle.tk_routes.proofs.RouteCosts.{route_length-limit}
use Rattle.tk_routes.proofs.RouteSteps.{way_back-customer}
use Rattle.tk_routes.proofs.cvrp.Cvrp.length.Goals as goal

-- the length of a route fits in 64 bits
fitting : (cvrp : Cvrp) (route : List ℕ) → length route ≤ CITY_LIMIT →
    route_length (instance_of cvrp) route ≤ 1000000000000000
fitting cvrp route few = omega (
  arith,
  few,
  route_length-limit (instance_of cvrp) route (table_distance-same cvrp.table) (table_distance-limit cvrp.table),
)

-- a distance is at most 4,000,000,000
within_limit : (table : Table) (a b : ℕ) (d : ℤ) → d ≡ pos (table_distance table a b) → d ≤ℤ pos 4000000000
within_limit table a b d is = omega (arith, ints, is, table_distance-limit table a b)

pub overflow_add-total : goal.overflow_add-total
overflow_add-total c =
    let cvrp = c.args.self.now in
    let h = c.loop-customer in
    let step = way_back-customer (table_distance cvrp.table) cvrp.depot h.from h.customer-index c.args.route.now
    c.node-node.result c.loop-customer-test.true c.node-node.ensures.value in
    omega (
      arith,
      ints,
      fitting cvrp c.args.route.now c.requires.few,
      step,
      h.invariant.low,
      h.invariant.left,
      c.dist-total.ensures,
    )

pub loop-customer-preserved : goal.loop-customer-preserved
loop-customer-preserved c =
    let cvrp = c.args.self.now in
    let h = c.loop-customer in
    let step = way_back-customer (table_distance cvrp.table) cvrp.depot h.from h.customer-index c.args.route.now
    c.node-node.result c.loop-customer-test.true c.node-node.ensures.value in
    let fits = fitting cvrp c.args.route.now c.requires.few in
    record {
      from_in = c.node-node.ensures.known;
      low = omega (arith, ints, fits, step, h.invariant.low, h.invariant.left, c.dist-total.ensures);
      left = omega (arith, ints, fits, step, h.invariant.low, h.invariant.left, c.dist-total.ensures);
    }

pub overflow_add-result : goal.overflow_add-result
overflow_add-result c =
    let cvrp = c.args.self.now in
    let h = c.loop-customer in
    omega (
      arith,
      ints,
      fitting cvrp c.args.route.now c.requires.few,
      h.invariant.low,
      h.invariant.left,
      c.dist.ensures,
      within_limit cvrp.table _ _ _ c.dist.ensures,
    )

pub returns : goal.returns
returns c =
    let table = c.args.self.now.table in
    let depot = c.args.self.now.depot in
    let h = c.loop-customer in
    omega (
      arith,
      ints,
      fitting c.args.self.now c.args.route.now c.requires.few,
      h.invariant.low,
      h.invariant.left,
      c.dist.ensures,
      way_back-end (table_distance table) h.from depot h.customer-index (map (node_of depot) c.args.route.now)
          (omega (arith, length-map c.args.route.now (node_of depot), c.loop-customer-test.false)),
    )
