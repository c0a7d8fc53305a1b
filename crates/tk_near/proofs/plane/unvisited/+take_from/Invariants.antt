use Rattle.std.proofs.Common.{◌+◌, ◌*◌}
use Rattle.tk_near.specs.Tree.{parts_of}
use Rattle.tk_near.proofs.plane.unvisited.+take_from.Given as goal

abbrev pub decreases-take_from : goal.decreases-take_from
decreases-take_from g l = 2 * parts_of l.tree.now

abbrev pub decreases-take_from_halves : goal.decreases-take_from_halves
decreases-take_from_halves g l = 2 * (parts_of l.first.now + parts_of l.second.now) + 1
