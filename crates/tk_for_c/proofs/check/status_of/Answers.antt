use Rattle.std.proofs.Common.{rules}
use Rattle.tk_for_c.proofs.check.status_of.Goals as goal

pub returns-in-Tour : goal.returns-in-Tour
returns-in-Tour = search rules
