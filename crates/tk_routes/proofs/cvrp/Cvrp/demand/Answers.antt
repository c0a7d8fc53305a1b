use Rattle.std.proofs.Common.{ap, ◌-◌, get_or}
use Rattle.tk_routes.proofs.cvrp.Cvrp.demand.Goals as goal

pub returns-clause-value : goal.returns-clause-value
returns-clause-value c = ap (λ node. get_or c.args.self.now.demands.now (node - 1) 0) c.node.ensures.value
