use Rattle.std.proofs.Common.{rules}
use Rattle.tk_kinds.proofs.kind.kind_of_foreign.Goals as goal

pub returns-in-Edges : goal.returns-in-Edges
returns-in-Edges c = search rules
