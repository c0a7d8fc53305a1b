use Rattle.std.proofs.Common.{◌≤◌, arith}
use Rattle.std.proofs.lemmas.List.Elements.{All-from_get_or}
use Rattle.tk_problem.specs.declared.limits.TheConstants.{DISTANCE_LIMIT}
use Rattle.tk_for_c.proofs.weights.are_small.Goals as goal

pub returns-clause-yes : goal.returns-clause-yes
returns-clause-yes c = λ _.
    All-from_get_or (λ w. w ≤ DISTANCE_LIMIT) c.args.weights.now 0
    (λ j lt. c.loop-i.invariant j (omega (arith, lt, c.loop-i.auto.i-end, c.loop-i-test.false)))
