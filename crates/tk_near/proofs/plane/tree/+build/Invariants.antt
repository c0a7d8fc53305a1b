use Rattle.std.proofs.Common.{length}
use Rattle.tk_near.proofs.plane.tree.+build.Given as goal

abbrev pub decreases-build : goal.decreases-build
decreases-build l = length l.row.now
