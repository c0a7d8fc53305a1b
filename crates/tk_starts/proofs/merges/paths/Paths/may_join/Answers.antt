use Rattle.std.proofs.Common.{arith}
use Rattle.std.proofs.lemmas.Grind.{common_steps}
use Rattle.tk_starts.proofs.merges.paths.Paths.may_join.Goals as goal

pub returns-then-index-capacity : goal.returns-then-index-capacity
returns-then-index-capacity c = grind (arith, common_steps)
