use Rattle.std.proofs.Common.{arith}
use Rattle.tk_near.proofs.list_length.ListLength.of.Goals as goal

pub invariant_of-result : goal.invariant_of-result
invariant_of-result c = record { within = (omega arith, omega arith) }
