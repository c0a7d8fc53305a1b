use Rattle.std.proofs.Common.{rules}
use Rattle.tk_near.proofs.plane.tree.may_enter.Goals as goal

pub returns : goal.returns
returns c = search rules
