use Rattle.tk_descent.proofs.sweep.descend_swept.Goals as goal

pub returns-clause-sweeping : goal.returns-clause-sweeping
returns-clause-sweeping g c = c.descend_swept_under.ensures.sweeping
