use Rattle.std.proofs.Common.{refl}
use Rattle.tk_routes.proofs.cvrp.Cvrp.depot.Goals as goal

pub returns-clause-value : goal.returns-clause-value
returns-clause-value c = refl
