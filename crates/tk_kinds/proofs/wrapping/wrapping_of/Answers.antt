use Rattle.std.proofs.Common.{rules}
use Rattle.tk_kinds.proofs.wrapping.wrapping_of.Goals as goal

pub returns-in-Some : goal.returns-in-Some
returns-in-Some c = search rules
