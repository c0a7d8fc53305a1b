use Rattle.std.proofs.Common.{take}
use Rattle.std.specs.Prelude.{All}
use Rattle.tk_near.specs.Tree.{IsInBox}
use Rattle.tk_near.proofs.plane.tree.bounds_of.Given as goal

abbrev pub invariant-loop-p : goal.invariant-loop-p
invariant-loop-p l = All (IsInBox l.bounds) (take l.p-index l.row)
