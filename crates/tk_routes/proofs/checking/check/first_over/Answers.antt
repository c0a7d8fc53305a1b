use Rattle.std.proofs.Common.{List, ℕ, subst, arith}
use Rattle.std.specs.List.{All}
use Rattle.tk_routes.specs.Cvrps.{instance_of}
use Rattle.tk_routes.specs.Instance.{customer_count}
use Rattle.tk_routes.specs.Routes.{IsLight}
use Rattle.tk_routes.proofs.CutLists.{map-take_all}
use Rattle.tk_routes.proofs.RouteSteps.{route_served, light_more, first_over_at}
use Rattle.tk_routes.proofs.ServedCustomers.{AreServedOnce-short}
use Rattle.tk_routes.proofs.checking.check.first_over.Goals as goal

pub load-load-requires : goal.load-load-requires
load-load-requires c =
    let m = customer_count (instance_of c.args.cvrp.now) in
    let served = route_served (λ r. r.items) m c.args.routes.now c.loop-k.k
    c.index-routes-k.result c.deref.result.now c.loop-k-test.true c.index-routes-k.is
    c.deref.ensures.value c.requires in
    record {
      known = served.known;
      few = omega (arith, AreServedOnce-short m c.deref.result.now served, c.args.cvrp.now.few);
    }

pub returns-then-load-capacity : goal.returns-then-load-capacity
returns-then-load-capacity c =
    first_over_at (λ r. r.items) (instance_of c.args.cvrp.now) c.args.routes.now c.loop-k.k c.index-routes-k.result
    c.deref.result.now c.loop-k-test.true c.index-routes-k.is c.deref.ensures.value c.load-load.result
    c.loop-k.invariant c.load-load.ensures (omega (arith, c.if-load-capacity.true, c.capacity.ensures.value))

pub loop-k-preserved : goal.loop-k-preserved
loop-k-preserved c =
    light_more (λ r. r.items) (instance_of c.args.cvrp.now) c.args.routes.now c.loop-k.k c.index-routes-k.result
    c.deref.result.now c.loop-k-test.true c.index-routes-k.is c.deref.ensures.value
    c.loop-k.invariant (omega (arith, c.if-load-capacity.false, c.capacity.ensures.value, c.load-load.ensures))

pub returns : goal.returns
returns c =
    subst (λ (v : List (List ℕ)). All (IsLight (instance_of c.args.cvrp.now)) v)
    (map-take_all (λ r. r.items) c.args.routes.now c.loop-k.k c.loop-k-test.false) c.loop-k.invariant
