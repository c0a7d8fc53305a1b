use Rattle.std.proofs.Common.{rules}
use Rattle.tk_for_c.proofs.info.Info.of.Goals as goal

pub returns : goal.returns
returns = search rules
