use Rattle.std.proofs.Common.{rules}
use Rattle.tk_descent.proofs.probe.Probe.with_cache.Goals as goal

pub returns-clause-count : goal.returns-clause-count
returns-clause-count = search rules
