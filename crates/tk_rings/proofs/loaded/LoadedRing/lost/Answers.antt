use Rattle.std.proofs.Common.{rules}
use Rattle.tk_rings.proofs.loaded.LoadedRing.lost.Goals as goal

pub returns : goal.returns
returns = search rules
