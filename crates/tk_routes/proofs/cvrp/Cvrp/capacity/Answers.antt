use Rattle.std.proofs.Common.{refl}
use Rattle.tk_routes.proofs.cvrp.Cvrp.capacity.Goals as goal

pub returns-clause-value : goal.returns-clause-value
returns-clause-value c = refl
