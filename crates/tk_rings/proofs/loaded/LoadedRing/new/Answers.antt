use Rattle.std.proofs.Common.{rules}
use Rattle.tk_rings.proofs.loaded.LoadedRing.new.Goals as goal

pub returns-clause-slots : goal.returns-clause-slots
returns-clause-slots = search rules
