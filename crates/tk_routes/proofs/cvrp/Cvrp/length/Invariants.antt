use Rattle.std.proofs.Common.{◌≡◌, pos, ◌+ℤ◌, ◌≤ℤ◌}
use Rattle.std.specs.Prelude.{map}
use Rattle.tk_distance.specs.Cities.{IsCity}
use Rattle.tk_distance.specs.Tables.{table_size, table_distance}
use Rattle.tk_tour.proofs.Lengths.{way_back}
use Rattle.tk_routes.specs.Cvrps.{instance_of}
use Rattle.tk_routes.specs.Instance.{node_of}
use Rattle.tk_routes.specs.Routes.{route_length}
use Rattle.tk_routes.proofs.cvrp.Cvrp.length.Given as goal

abbrev pub invariant-loop-customer : goal.invariant-loop-customer
invariant-loop-customer l = record {
  from_in : IsCity (table_size l.self.table) l.from;
  low : pos 0 ≤ℤ l.total;
  left : l.total +ℤ pos
      (way_back (table_distance l.self.table) l.from l.self.depot l.customer-index (map (node_of l.self.depot) l.route))
      ≡ pos (route_length (instance_of l.self) l.route);
}
