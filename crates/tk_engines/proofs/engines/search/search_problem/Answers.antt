use Rattle.std.proofs.Common.{refl}
use Rattle.tk_engines.proofs.SolveEnds.{unwatched}
use Rattle.tk_engines.proofs.engines.search.search_problem.Goals as goal

pub returns-in_err-check_initial-clause-unwatched : goal.returns-in_err-check_initial-clause-unwatched
returns-in_err-check_initial-clause-unwatched g c = unwatched _ refl c.from_residual.result
