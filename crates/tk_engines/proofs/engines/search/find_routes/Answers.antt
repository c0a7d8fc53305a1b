use Rattle.std.proofs.Common.{ap, arith, length, rules}
use Rattle.std.proofs.lemmas.List.{length-map}
use Rattle.tk_distance.specs.Tables.{table_size-limit}
use Rattle.tk_routes.specs.RouteLists.{routes_of}
use Rattle.tk_engines.proofs.FoundCounts.{count_filled}
use Rattle.tk_engines.proofs.engines.search.find_routes.Goals as goal

pub invariant_of-result : goal.invariant_of-result
invariant_of-result c =
    let routes = c.in_ok-routes.routes in
    let valid = c.in_ok-routes.ensures.valid in
    let count = length-map c.into_lists.result.items (λ r. r.items) in
    record {
      positive = search rules;
      few_routes = omega (
        arith,
        count,
        ap length c.into_lists.ensures,
        count_filled (routes_of routes) valid.filled,
        valid.once.0,
        table_size-limit c.args.cvrp.now.table,
      );
      few_customers = rw c.into_lists.ensures (omega (arith, valid.once.0, table_size-limit c.args.cvrp.now.table));
    }

pub returns : goal.returns
returns = search rules
