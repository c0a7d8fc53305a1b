use Rattle.std.proofs.Common.{rules}
use Rattle.tk_kinds.proofs.foreign.foreign_of.Goals as goal

pub returns-then-is_concorde : goal.returns-then-is_concorde
returns-then-is_concorde c = search rules
