use Rattle.std.proofs.Common.{◌≡◌, ◌+◌, take}
use Rattle.tk_lists.specs.Solution.{lists_of}
use Rattle.tk_routes.specs.Cvrps.{instance_of}
use Rattle.tk_routes.specs.Instance.{customer_count}
use Rattle.tk_rings.specs.RingRoutes.{ring_of}
use Rattle.tk_rings.proofs.making.ring_of.Given as goal

abbrev pub invariant-loop-route : goal.invariant-loop-route
invariant-loop-route l = record {
  ring : l.ring.items ≡ ring_of (instance_of l.cvrp) (lists_of (take l.route-index l.routes));
  copy : l.copy ≡ customer_count (instance_of l.cvrp) + 1 + l.route-index;
}
