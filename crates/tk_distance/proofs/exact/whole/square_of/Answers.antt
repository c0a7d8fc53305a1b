use Rattle.std.proofs.Common.{ℕ, ◌*◌, ◌≤◌, arith}
use Rattle.std.proofs.lemmas.Nat.{mul-le}
use Rattle.tk_problem.specs.declared.limits.TheConstants.{COORDINATE_LIMIT}
use Rattle.tk_distance.proofs.exact.whole.square_of.Goals as goal

square_of-near : (d : ℕ) → d ≤ 2 * COORDINATE_LIMIT → d * d ≤ 4000000000000000000
square_of-near d near = mul-le d d (2 * COORDINATE_LIMIT) (2 * COORDINATE_LIMIT) near near

pub overflow_mul-result : goal.overflow_mul-result
overflow_mul-result c = omega (arith, square_of-near _ c.requires.x_near)

pub overflow_mul-result-2 : goal.overflow_mul-result-2
overflow_mul-result-2 c = omega (arith, square_of-near _ c.requires.y_near)

pub overflow_add-result : goal.overflow_add-result
overflow_add-result c =
    omega (arith, square_of-near _ c.requires.x_near, square_of-near _ c.requires.y_near)

pub returns-clause-bound : goal.returns-clause-bound
returns-clause-bound c =
    omega (arith, square_of-near _ c.requires.x_near, square_of-near _ c.requires.y_near)
