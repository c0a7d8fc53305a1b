-- What callers see of a `Cvrp`.
use Rattle.tk_distance.specs.Tables.{table_size, table_distance}
use Rattle.tk_routes.specs.Instance.{Instance}
use Rattle.tk_routes.specs.declared.cvrp.Cvrp.{Cvrp}

abbrev pub instance_of : Cvrp → Instance
instance_of c = record {
  size = table_size c.table;
  distance = table_distance c.table;
  demands = c.demands.now;
  capacity = c.capacity;
  depot = c.depot;
}
