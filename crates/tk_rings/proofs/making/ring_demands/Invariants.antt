use Rattle.std.proofs.Common.{◌≡◌}
use Rattle.std.specs.Prelude.{map}
use Rattle.tk_descent.specs.Awake.{one_to}
use Rattle.tk_routes.specs.Cvrps.{instance_of}
use Rattle.tk_routes.specs.Instance.{demand_of}
use Rattle.tk_rings.proofs.making.ring_demands.Given as goal

abbrev pub invariant-loop-k : goal.invariant-loop-k
invariant-loop-k l = l.demands.items ≡ map (demand_of (instance_of l.cvrp)) (one_to l.k)
