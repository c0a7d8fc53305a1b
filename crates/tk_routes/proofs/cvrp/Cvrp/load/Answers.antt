use Rattle.std.proofs.Common.{arith}
use Rattle.std.proofs.lemmas.List.Sums.{sum_by_more}
use Rattle.tk_routes.specs.Cvrps.{instance_of}
use Rattle.tk_routes.specs.Instance.{demand_of}
use Rattle.tk_routes.proofs.cvrp.Cvrp.load.Goals as goal

pub loop-customer-preserved : goal.loop-customer-preserved
loop-customer-preserved c =
    let n = c.loop-customer in
    let more = sum_by_more (demand_of (instance_of c.args.self.now)) c.args.route.now n.customer-index 0
    c.loop-customer-test.true in
    record {
      sum = omega (arith, n.invariant.sum, c.demand.ensures.value, more);
      small = omega (arith, n.invariant.small, c.demand.ensures.limit);
    }
