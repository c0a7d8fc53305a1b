use Rattle.std.proofs.lemmas.Int.{ints}
use Rattle.std.proofs.Common.{arith}
use Rattle.tk_distance.proofs.exact.whole.apart.Goals as goal

pub overflow_sub-a : goal.overflow_sub-a
overflow_sub-a c = omega (arith, ints)

pub returns-clause-value : goal.returns-clause-value
returns-clause-value c = omega (arith, ints)

pub returns-clause-bound : goal.returns-clause-bound
returns-clause-bound c = omega (arith, ints)
