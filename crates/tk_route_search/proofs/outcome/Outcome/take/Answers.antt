use Rattle.std.proofs.Common.{rules}
use Rattle.tk_route_search.proofs.outcome.Outcome.take.Goals as goal

pub returns-clause-taken : goal.returns-clause-taken
returns-clause-taken = search rules
