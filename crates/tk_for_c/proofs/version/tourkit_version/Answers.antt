use Rattle.std.proofs.Common.{rules}
use Rattle.tk_for_c.proofs.version.tourkit_version.Goals as goal

pub returns : goal.returns
returns = search rules
