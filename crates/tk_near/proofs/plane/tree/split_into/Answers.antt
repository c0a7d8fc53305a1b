use Rattle.tk_near.specs.Tree.{entries_of}
use Rattle.tk_near.proofs.InPlane.TreeCandidates.{joined_within}
use Rattle.tk_near.proofs.plane.tree.split_into.Goals as goal

pub returns-clause-within : goal.returns-clause-within
returns-clause-within c =
    joined_within _ _ _ (entries_of c.in_ok-lower_box.lower_box.value) (entries_of c.in_ok-upper_box.upper_box.value)
    c.joined.ensures.first c.joined.ensures.second (rw c.in_ok-lower_box.ensures.ok c.requires.lower.0)
    (rw c.in_ok-upper_box.ensures.ok c.requires.upper.0)
