use Rattle.std.proofs.Common.{◌≡◌, ◌+◌, ◌<◌, ◌≤◌, ℕ, List, Vec, Global, get_or, length, take, arith}
use Rattle.std.specs.List.{concat}
use Rattle.std.specs.Prelude.{map}
use Rattle.std.proofs.lemmas.Int.{ints}
use Rattle.tk_distance.specs.Tables.{table_distance-same, table_distance-limit}
use Rattle.tk_routes.specs.Cvrps.{instance_of}
use Rattle.tk_routes.specs.Instance.{customer_count}
use Rattle.tk_routes.proofs.RouteSteps.{route_served, routes_cost-more, routes_cost-bound}
use Rattle.tk_routes.proofs.ServedCustomers.{AreServedOnce-short}
use Rattle.tk_routes.specs.Routes.{route_length, routes_cost}
use Rattle.tk_routes.specs.RouteVerdicts.{AreServedOnce}
use Rattle.tk_routes.specs.declared.cvrp.Cvrp.{Cvrp}
use Rattle.tk_routes.proofs.checking.check.cost_of.Goals as goal

-- the cost of the first routes after one more is added, and that it fits in 64 bits
one_more : (cvrp : Cvrp) (routes : List (Vec ℕ Global)) (k : ℕ) (item : Vec ℕ Global) (route : List ℕ) →
    k < length routes → item ≡ get_or routes k item → route ≡ item.items →
    AreServedOnce (customer_count (instance_of cvrp)) (concat (map (λ r. r.items) routes)) →
    (routes_cost (instance_of cvrp) (map (λ r. r.items) (take (k + 1) routes))
    ≡ routes_cost (instance_of cvrp) (map (λ r. r.items) (take k routes)) + route_length (instance_of cvrp) route)
    × (routes_cost (instance_of cvrp) (map (λ r. r.items) (take (k + 1) routes)) ≤ 1000000000000000)
one_more cvrp routes k item route lt at is served =
    let i = instance_of cvrp in
    let bound = routes_cost-bound (λ r. r.items) i (customer_count i) routes (k + 1) (table_distance-same cvrp.table)
    (table_distance-limit cvrp.table) served in
    (routes_cost-more (λ r. r.items) i routes k item route lt at is, omega (arith, bound, cvrp.few))

pub length-cost-requires : goal.length-cost-requires
length-cost-requires c =
    let m = customer_count (instance_of c.args.cvrp.now) in
    let served = route_served (λ r. r.items) m c.args.routes.now c.loop-route.route-index
    c.route-item.result c.deref.result.now c.loop-route-test.true c.route-item.is
    c.deref.ensures.value c.requires in
    record {
      known = served.known;
      few = omega (arith, AreServedOnce-short m c.deref.result.now served, c.args.cvrp.now.few);
    }

pub overflow_add-cost : goal.overflow_add-cost
overflow_add-cost c =
    let more = one_more c.args.cvrp.now c.args.routes.now c.loop-route.route-index c.route-item.result
    c.deref.result.now c.loop-route-test.true c.route-item.is c.deref.ensures.value c.requires in
    omega (arith, ints, more.0, more.1, c.loop-route.invariant, c.length-cost.ensures)

pub loop-route-preserved : goal.loop-route-preserved
loop-route-preserved c =
    let more = one_more c.args.cvrp.now c.args.routes.now c.loop-route.route-index c.route-item.result
    c.deref.result.now c.loop-route-test.true c.route-item.is c.deref.ensures.value c.requires in
    omega (arith, ints, more.0, more.1, c.loop-route.invariant, c.length-cost.ensures)
