use Rattle.std.proofs.Common.{◌∙◌, ap, arith, pos, sym, ◌*ℤ◌}
use Rattle.std.proofs.lemmas.Int.{ints}
use Rattle.tk_problem.proofs.UnitPoints.{points_differ, points_equal, quotient-in, same_point, whole-quotient}
use Rattle.tk_problem.specs.Units.{step_of}
use Rattle.tk_problem.proofs.unit.Unit.whole.Goals as goal

pub returns-then-eq-clause-some : goal.returns-then-eq-clause-some
returns-then-eq-clause-some c = sym c.place.ensures.place ∙ points_equal c.place.result c.args.place c.if-eq.ensures

pub returns-else-eq-clause-none : goal.returns-else-eq-clause-none
returns-else-eq-clause-none c = λ whole same.
    let step = pos (step_of c.args.self) in
    let x = quotient-in c.args.self c.args.place.x c.units-x.result whole.x (ap (λ p. p.x) same) c.units-x.ensures
    whole.x_near in
    let y = quotient-in c.args.self c.args.place.y c.units-y.result whole.y (ap (λ p. p.y) same) c.units-y.ensures
    whole.y_near in
    points_differ c.place.result c.args.place c.if-eq.ensures
    (c.place.ensures.place ∙ same_point _ _ _ _ (ap (λ z. z *ℤ step) x) (ap (λ z. z *ℤ step) y) ∙ same)

pub overflow_cast-whole : goal.overflow_cast-whole
overflow_cast-whole c = omega (arith, ints)

pub overflow_cast-whole-2 : goal.overflow_cast-whole-2
overflow_cast-whole-2 c = omega (arith, ints)

pub invariant_of-whole : goal.invariant_of-whole
invariant_of-whole c = record { x_near = omega (arith, ints); y_near = omega (arith, ints) }

pub returns-then-unsigned_abs-gt-COORDINATE_LIMIT-clause-none :
    goal.returns-then-unsigned_abs-gt-COORDINATE_LIMIT-clause-none
returns-then-unsigned_abs-gt-COORDINATE_LIMIT-clause-none c = λ whole same.
    let x = whole-quotient c.args.self c.args.place.x c.units-x.result whole.x (ap (λ p. p.x) same) c.units-x.ensures
    whole.x_near in
    let y = whole-quotient c.args.self c.args.place.y c.units-y.result whole.y (ap (λ p. p.y) same) c.units-y.ensures
    whole.y_near in
    grind (ints, arith, x, y, whole.x_near, whole.y_near)
