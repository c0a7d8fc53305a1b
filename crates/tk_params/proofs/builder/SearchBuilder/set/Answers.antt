use Rattle.std.proofs.Common.{rules}
use Rattle.tk_params.proofs.builder.SearchBuilder.set.Goals as goal

pub returns-clause-ok : goal.returns-clause-ok
returns-clause-ok = search rules
