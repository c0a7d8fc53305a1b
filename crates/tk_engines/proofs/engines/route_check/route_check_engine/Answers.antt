use Rattle.std.proofs.Common.{refl}
use Rattle.tk_engines.proofs.EngineEnds.{unless_write}
use Rattle.tk_engines.proofs.engines.route_check.route_check_engine.Goals as goal

pub returns-in_err-verdict-clause-quiet : goal.returns-in_err-verdict-clause-quiet
returns-in_err-verdict-clause-quiet g c = unless_write c.from_residual.result (refl, refl)
