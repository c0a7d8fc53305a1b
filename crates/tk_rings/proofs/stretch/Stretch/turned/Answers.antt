use Rattle.std.proofs.Common.{rules}
use Rattle.tk_rings.proofs.stretch.Stretch.turned.Goals as goal

pub returns : goal.returns
returns = search rules
