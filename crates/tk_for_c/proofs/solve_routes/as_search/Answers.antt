use Rattle.std.proofs.Common.{rules}
use Rattle.tk_for_c.proofs.solve_routes.as_search.Goals as goal

pub returns : goal.returns
returns = search rules
