use Rattle.std.proofs.Common.{arith}
use Rattle.std.proofs.lemmas.Int.{ints}
use Rattle.tk_ring_search.proofs.trials.judging.judge.Goals as goal

pub returns-then-found-best : goal.returns-then-found-best
returns-then-found-best c = omega (arith, ints)

pub returns-then-found-limit : goal.returns-then-found-limit
returns-then-found-limit c = (omega (arith, ints), omega (arith, ints))
