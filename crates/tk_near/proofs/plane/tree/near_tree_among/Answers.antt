use Rattle.tk_near.proofs.plane.tree.near_tree_among.Goals as goal

pub lists_by_tree-requires-clause-tree : goal.lists_by_tree-requires-clause-tree
lists_by_tree-requires-clause-tree g c = c.in_ok-row.ensures.entries
