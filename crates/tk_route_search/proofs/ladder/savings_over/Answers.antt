use Rattle.std.proofs.Common.{◌∙◌}
use Rattle.tk_routes.specs.Cvrps.{instance_of}
use Rattle.tk_route_search.proofs.ladder.savings_over.Goals as goal

pub returns-clause-savings : goal.returns-clause-savings
returns-clause-savings c =
    let found = c.in_ok-shortened.ensures in
    record {
      near = c.in_ok-shortened.shortened;
      size = found.size ∙ c.requires.near.size;
      width = found.width;
      nearest = found.nearest (instance_of c.args.cvrp.now).distance c.requires.near.near;
      merged = c.in_ok-routes.ensures.merged;
    }
