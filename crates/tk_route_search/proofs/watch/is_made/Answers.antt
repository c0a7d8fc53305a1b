use Rattle.std.proofs.Common.{true, arith, ◌≤◌, subst, sym}
use Rattle.tk_route_search.specs.Events.{Asked}
use Rattle.tk_route_search.specs.Watching.{WereShown, nothing, next}
use Rattle.tk_solve.proofs.Endings.{question_first, question_later}
use Rattle.tk_route_search.proofs.watch.is_made.Goals as goal

pub returns-then-j-eq0-clause-asked : goal.returns-then-j-eq0-clause-asked
returns-then-j-eq0-clause-asked g c =
    subst (WereShown g.W.RouteWatch.shows c.args.watch.now c.args.watch.now)
    (sym (question_first Asked c.args.j true c.if-j-eq0.true)) nothing

pub returns-clause-asked : goal.returns-clause-asked
returns-clause-asked g c =
    let later : 1 ≤ c.args.j = omega (arith, c.if-j-eq0.false) in
    subst (WereShown g.W.RouteWatch.shows c.args.watch.now c.goes_on.new.self)
    (sym (question_later Asked c.args.j c.goes_on.result later)) (next nothing c.goes_on.ensures)
