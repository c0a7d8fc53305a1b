use Rattle.std.proofs.Common.{rules}
use Rattle.tk_kinds.proofs.misread.misread_of.Goals as goal

pub returns-then-contains-2 : goal.returns-then-contains-2
returns-then-contains-2 c = search rules
