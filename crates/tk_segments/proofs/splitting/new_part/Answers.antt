use Rattle.std.proofs.lemmas.Grind.{common_steps}
use Rattle.std.proofs.Common.{arith}
use Rattle.tk_segments.proofs.splitting.new_part.Goals as goal

pub returns-then-segment-clause-behind : goal.returns-then-segment-clause-behind
returns-then-segment-clause-behind c = grind (arith, common_steps)

pub returns-then-segment-clause-ahead : goal.returns-then-segment-clause-ahead
returns-then-segment-clause-ahead c = grind (arith, common_steps)

pub returns-else-segment-clause-behind : goal.returns-else-segment-clause-behind
returns-else-segment-clause-behind c = grind (arith, common_steps)

pub returns-else-segment-clause-ahead : goal.returns-else-segment-clause-ahead
returns-else-segment-clause-ahead c = grind (arith, common_steps)
