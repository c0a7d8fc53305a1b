use Rattle.std.proofs.Common.{ap, arith}
use Rattle.std.proofs.lemmas.List.{map-set}
use Rattle.tk_problem.proofs.UnitPoints.{places_in-near}
use Rattle.tk_problem.specs.Stored.{stored_places}
use Rattle.tk_problem.specs.Units.{place_in}
use Rattle.std.proofs.lemmas.Grind.{common_steps}
use Rattle.tk_problem.proofs.points.Points.set.Goals as goal

pub invariant_of-self : goal.invariant_of-self
invariant_of-self c = places_in-near _ _

pub returns-in-Some-clause-ok : goal.returns-in-Some-clause-ok
returns-in-Some-clause-ok c =
    let e = map-set (place_in c.in-Whole.unit) c.in-Whole.places.items c.args.index c.in-Some.whole in
    let is = ap stored_places c.in-Whole.is in
    let view = c.self.view_is in
    let put = c.in-Some.ensures in
    cc

pub returns-in-Some-clause-err : goal.returns-in-Some-clause-err
returns-in-Some-clause-err c = grind (arith, common_steps)

pub invariant_of-self-in-Fine : goal.invariant_of-self-in-Fine
invariant_of-self-in-Fine c = grind (arith, common_steps)

pub returns-in-Fine-clause-ok : goal.returns-in-Fine-clause-ok
returns-in-Fine-clause-ok c = grind (arith, common_steps)

pub returns-in-Fine-clause-err : goal.returns-in-Fine-clause-err
returns-in-Fine-clause-err c = grind (arith, common_steps)

pub invariant_of-self-2 : goal.invariant_of-self-2
invariant_of-self-2 c = grind (arith, common_steps)

pub returns-clause-ok : goal.returns-clause-ok
returns-clause-ok c = grind (arith, common_steps)

pub returns-clause-err : goal.returns-clause-err
returns-clause-err c = grind (arith, common_steps)

pub put-requires-clause-index : goal.put-requires-clause-index
put-requires-clause-index c = grind (arith, common_steps)

pub put-requires-clause-near : goal.put-requires-clause-near
put-requires-clause-near c = grind (arith, common_steps)
