use Rattle.std.proofs.Common.{ap, ◌-◌}
use Rattle.tk_routes.proofs.cvrp.Cvrp.customers.Goals as goal

pub returns-clause-value : goal.returns-clause-value
returns-clause-value c = ap (λ n. n - 1) c.size.ensures
