use Rattle.std.proofs.Common.{rules}
use Rattle.tk_engines.proofs.engines.between_given.check_start.Goals as goal

pub returns-in-Some-clause-ok : goal.returns-in-Some-clause-ok
returns-in-Some-clause-ok = search rules
