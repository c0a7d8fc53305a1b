use Rattle.std.proofs.Common.{rules}
use Rattle.tk_rings.proofs.loaded.LoadedRing.take_order.Goals as goal

pub returns-clause-order : goal.returns-clause-order
returns-clause-order = search rules
