use Rattle.tk_routes.proofs.cvrp.Cvrp.of.Goals as goal

pub returns-clause-none : goal.returns-clause-none
returns-clause-none c = cc
