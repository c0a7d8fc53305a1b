use Rattle.std.proofs.Common.{◌≡◌, ◌++◌, replicate}
use Rattle.std.specs.Prelude.{map, All}
use Rattle.tk_distance.specs.Cities.{IsCity}
use Rattle.tk_descent.specs.Awake.{one_to}
use Rattle.tk_routes.specs.Cvrps.{instance_of}
use Rattle.tk_routes.specs.Instance.{customer_count, node_of}
use Rattle.tk_rings.proofs.making.ring_nodes.Given as goal

abbrev pub invariant-loop-k : goal.invariant-loop-k
invariant-loop-k l = record {
  nodes : l.nodes.items ≡ map (node_of (instance_of l.cvrp).depot) (one_to l.k);
  known : All (IsCity (instance_of l.cvrp).size) l.nodes.items;
}

abbrev pub invariant-loop-j : goal.invariant-loop-j
invariant-loop-j l = record {
  nodes : l.nodes.items
      ≡ map (node_of (instance_of l.cvrp).depot) (one_to (customer_count (instance_of l.cvrp)))
      ++ replicate l.j (instance_of l.cvrp).depot;
  known : All (IsCity (instance_of l.cvrp).size) l.nodes.items;
}
