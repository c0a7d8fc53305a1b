use Rattle.std.proofs.Common.{rules}
use Rattle.tk_descent.proofs.probe.Probe.into_cache.Goals as goal

pub returns-clause-steps : goal.returns-clause-steps
returns-clause-steps = search rules
