use Rattle.std.proofs.Common.{refl}
use Rattle.std.specs.Prelude.{map}
use Rattle.tk_lists.specs.Solution.{as_solution}
use Rattle.tk_problem_text.specs.ProblemOf.{problem_is}
use Rattle.tk_routes.specs.RouteVerdicts.{IsRouteVerdict}
use Rattle.tk_engines.proofs.ReadTables.{some_instance_read}
use Rattle.tk_engines.proofs.RouteChecks.{routing_fits}
use Rattle.tk_engines.proofs.TextsRead.{is_read, is_refused}
use Rattle.tk_engines.proofs.engines.route_check.check_solution.Goals as goal

pub returns-in-Err : goal.returns-in-Err
returns-in-Err g c = record {
  ends = record {
    problem = problem_is c.args.problem.now;
    is_problem = refl;
    fits = routing_fits c.args.problem.now _ c.requires;
    refused = (c.in-Err.fault, refl, is_refused c.in-Err.ensures.reads);
  };
}

pub returns-in-Ok-check_routes : goal.returns-in-Ok-check_routes
returns-in-Ok-check_routes g c = record {
  ends = record {
    problem = problem_is c.args.problem.now;
    second = as_solution c.in-Ok.solution;
    text = tt;
    read = record {
      is_problem = refl;
      fits = routing_fits c.args.problem.now _ c.requires;
      is_second = is_read c.in-Ok.ensures.reads;
    };
    together = refl;
    gives = some_instance_read c.args.problem.now _ (λ i. IsRouteVerdict i (map (λ r. r.items)
        c.in-Ok.solution.routes.items) c.in-Ok.solution.cost c.in-Ok-check_routes.verdict) c.requires
        c.in-Ok-check_routes.ensures;
    written = tt;
  };
}
