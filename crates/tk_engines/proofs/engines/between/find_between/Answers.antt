use Rattle.std.proofs.Common.{arith}
use Rattle.std.proofs.lemmas.Int.{ints}
use Rattle.std.proofs.lemmas.List.{length-map}
use Rattle.tk_distance.specs.Tables.{table_size-limit}
use Rattle.tk_lists.specs.Solution.{lists_of}
use Rattle.tk_engines.proofs.BetweenEnds.{few_reports}
use Rattle.tk_engines.proofs.FoundCounts.{count_filled}
use Rattle.tk_engines.proofs.engines.between.find_between.Goals as goal

pub invariant_of-result : goal.invariant_of-result
invariant_of-result g c =
    let solved = c.in_ok-solved.solved in
    let found = c.in_ok-solved.ensures in
    let valid = found.sound.valid in
    record {
      positive = omega (arith, ints, found.are.cost);
      few_routes = omega (
        arith,
        length-map solved.routes.items (λ r. r.items),
        count_filled (lists_of solved.routes.items) valid.filled,
        valid.once.0,
        table_size-limit c.args.cvrp.now.table,
      );
      few_customers = omega (arith, valid.once.0, table_size-limit c.args.cvrp.now.table);
      few_runs = few_reports _ _ _ _ _ solved c.args.settings.now.some_runs.1 found;
    }
