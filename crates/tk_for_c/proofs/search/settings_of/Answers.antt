use Rattle.std.proofs.Common.{rules}
use Rattle.tk_for_c.proofs.search.settings_of.Goals as goal

pub returns-clause-some : goal.returns-clause-some
returns-clause-some = search rules
