use Rattle.std.proofs.Common.{rules}
use Rattle.tk_descent.proofs.edge_cache.neighbour_distances.Goals as goal

pub returns-clause-known : goal.returns-clause-known
returns-clause-known g c = search rules
