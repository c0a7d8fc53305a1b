use Rattle.std.proofs.Common.{subst, sym}
use Rattle.tk_problem.specs.Laws.Units.{place_in-near}
use Rattle.tk_problem.specs.Places.{IsNearOrigin}
use Rattle.tk_problem.proofs.UnitPoints.{product-in, product-fits, same_point}
use Rattle.tk_problem.proofs.unit.Unit.place.Goals as goal

pub returns-clause-place : goal.returns-clause-place
returns-clause-place c =
    same_point _ _ _ _ (product-in c.args.self c.args.whole.x _ c.step-step.ensures c.args.whole.x_near)
    (product-in c.args.self c.args.whole.y _ c.step-step.ensures c.args.whole.y_near)

pub returns-clause-near : goal.returns-clause-near
returns-clause-near c =
    subst IsNearOrigin (sym (returns-clause-place c)) (place_in-near c.args.self c.args.whole)

pub overflow_mul-result : goal.overflow_mul-result
overflow_mul-result c = product-fits c.args.self c.args.whole.x _ c.step-step.ensures c.args.whole.x_near

pub overflow_mul-result-2 : goal.overflow_mul-result-2
overflow_mul-result-2 c = product-fits c.args.self c.args.whole.y _ c.step-step.ensures c.args.whole.y_near
