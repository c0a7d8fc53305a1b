use Rattle.std.proofs.Common.{refl, rules}
use Rattle.tk_engines.specs.Engine.{WritesNothing}
use Rattle.tk_engines.proofs.EngineEnds.{second_reached}
use Rattle.tk_engines.proofs.RouteChecks.{routing_fits}
use Rattle.tk_engines.proofs.engines.route_check.route_outcome_of.Goals as goal

pub returns-clause-unread : goal.returns-clause-unread
returns-clause-unread g c =
    second_reached _ _ _ WritesNothing _ (routing_fits c.args.problem.now _ c.in-Some.ensures.some)
    c.check_solution.result c.check_solution.ensures.ends

pub returns-in_default-clause-ends : goal.returns-in_default-clause-ends
returns-in_default-clause-ends = search rules

pub returns-in_default-clause-unread : goal.returns-in_default-clause-unread
returns-in_default-clause-unread g c = (refl, refl)
