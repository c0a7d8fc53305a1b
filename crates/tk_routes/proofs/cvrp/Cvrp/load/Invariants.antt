use Rattle.std.proofs.Common.{◌≡◌, ◌≤◌, ◌*◌, take}
use Rattle.tk_problem.specs.declared.limits.TheConstants.{CAPACITY_LIMIT}
use Rattle.tk_routes.specs.Cvrps.{instance_of}
use Rattle.tk_routes.specs.Routes.{route_load}
use Rattle.tk_routes.proofs.cvrp.Cvrp.load.Given as goal

abbrev pub invariant-loop-customer : goal.invariant-loop-customer
invariant-loop-customer l = record {
  sum : l.load ≡ route_load (instance_of l.self) (take l.customer-index l.route);
  small : l.load ≤ CAPACITY_LIMIT * l.customer-index;
}
