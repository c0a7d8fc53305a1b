use Rattle.tk_distance.proofs.exact.fine.is_fine_nearer.Goals as goal

pub returns-in-Euc2d : goal.returns-in-Euc2d
returns-in-Euc2d c = λ d is. c.is_root_below.ensures d (rw c.square_between.ensures.value (rw c.in-Euc2d.is at is))
