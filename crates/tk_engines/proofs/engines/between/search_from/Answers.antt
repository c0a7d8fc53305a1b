use Rattle.std.proofs.Common.{◌≡◌, None, rules}
use Rattle.tk_problem_text.specs.ProblemOf.{problem_is}
use Rattle.tk_engines.specs.Engine.{WritesNothing}
use Rattle.tk_engines.specs.RouteCheck.{without_routing}
use Rattle.tk_engines.proofs.EngineEnds.{second_reached, second_read}
use Rattle.tk_engines.proofs.engines.between.search_from.Goals as goal

pub returns-clause-ends : goal.returns-clause-ends
returns-clause-ends g c =
    second_read _ _ _ WritesNothing _ c.in_ok-start.ensures.ok c.search_between.result c.search_between.ensures.ends

pub returns-clause-unread : goal.returns-clause-unread
returns-clause-unread g c =
    let fits : without_routing (problem_is c.args.problem.now) ≡ None = search rules in
    second_reached _ _ _ WritesNothing _ fits c.search_between.result c.search_between.ensures.ends
