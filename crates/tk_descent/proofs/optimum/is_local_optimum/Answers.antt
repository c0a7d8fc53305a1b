use Rattle.tk_descent.proofs.optimum.is_local_optimum.Goals as goal

pub returns : goal.returns
returns g c = c.is_local_optimum_under.ensures
