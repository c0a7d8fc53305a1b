use Rattle.std.proofs.Common.{◌≡◌, ◌+◌, ◌*◌, length}
use Rattle.tk_routes.specs.Rows.{AreRows}
use Rattle.tk_routes.proofs.solving.distance_matrix.DistanceMatrix.of.Given as goal

abbrev pub invariant-loop-a : goal.invariant-loop-a
invariant-loop-a g l = record {
  long : length l.rows.items ≡ l.a * l.size;
  rows : AreRows (g.M.Metric.distance l.metric) l.size l.rows.items;
}

abbrev pub invariant-loop-b : goal.invariant-loop-b
invariant-loop-b g l = record {
  long : length l.rows.items ≡ l.a * l.size + l.b;
  rows : AreRows (g.M.Metric.distance l.metric) l.size l.rows.items;
}
