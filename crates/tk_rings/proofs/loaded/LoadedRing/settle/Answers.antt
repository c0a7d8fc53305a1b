use Rattle.std.proofs.Common.{rules}
use Rattle.tk_rings.proofs.loaded.LoadedRing.settle.Goals as goal

pub returns-clause-settled : goal.returns-clause-settled
returns-clause-settled = search rules
