use Rattle.tk_metric.specs.Tables.{table_distance}
use Rattle.tk_engines.proofs.ReadTables.{distances_read}
use Rattle.tk_for_c.proofs.arrays.table_of.Goals as goal

pub returns-clause-distances : goal.returns-clause-distances
returns-clause-distances c =
    distances_read (table_distance c.of.result) c.args.problem.now.weights c.of.ensures.distances
