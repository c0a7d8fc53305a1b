use Rattle.std.proofs.Common.{◌≡◌, ◌∙◌, subst, rules}
use Rattle.std.specs.Prelude.{min, ◌-◌}
use Rattle.tk_near.specs.Near.{AreNearest}
use Rattle.tk_routes.specs.Cvrps.{instance_of}
use Rattle.tk_solve.proofs.routes.solve_routes.Goals as goal

pub returns : goal.returns
returns c =
    let i = instance_of c.args.cvrp.now in
    let near = c.in_ok-near.ensures in
    let improved = c.in_ok-report.ensures in
    let least : c.min.result ≡ min c.args.options.candidates (i.size - 1) = search rules in
    record {
      near = c.in_ok-near.near;
      nearest = subst (λ d. AreNearest d c.in_ok-near.near) c.table-table.ensures.distance near.near;
      size = near.size ∙ c.table-table.ensures.size;
      width = near.width ∙ least;
      merged = _;
      savings = c.in_ok-routes.ensures.merged;
      improved = improved.improved;
      valid = improved.routes;
    }
