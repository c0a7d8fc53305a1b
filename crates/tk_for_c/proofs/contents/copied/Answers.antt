use Rattle.std.proofs.Common.{rules}
use Rattle.tk_for_c.proofs.contents.copied.Goals as goal

pub returns-clause-given : goal.returns-clause-given
returns-clause-given = search rules
