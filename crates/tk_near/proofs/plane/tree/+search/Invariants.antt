use Rattle.tk_near.specs.Tree.{parts_of}
use Rattle.tk_near.proofs.plane.tree.+search.Given as goal

abbrev pub decreases-search : goal.decreases-search
decreases-search g l = parts_of l.tree.now
