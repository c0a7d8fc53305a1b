use Rattle.std.proofs.Common.{◌≡◌, ◌∷◌, take}
use Rattle.std.specs.Prelude.{map, All}
use Rattle.tk_distance.specs.Cities.{IsCity}
use Rattle.tk_routes.specs.Cvrps.{instance_of}
use Rattle.tk_routes.specs.Instance.{node_of}
use Rattle.tk_routes.proofs.solving.one_route.list_nodes.Given as goal

abbrev pub invariant-loop-customer : goal.invariant-loop-customer
invariant-loop-customer l = record {
  value : l.nodes.items ≡ l.cvrp.depot ∷ map (node_of l.cvrp.depot) (take l.customer-index l.route);
  known : All (IsCity (instance_of l.cvrp).size) l.nodes.items;
}
