use Rattle.std.proofs.lemmas.Grind.{common_steps}
use Rattle.std.proofs.Common.{arith}
use Rattle.tk_segments.proofs.spots.neighbours.Goals as goal

pub overflow_add-spot : goal.overflow_add-spot
overflow_add-spot c = grind (arith, common_steps)

pub returns-then-spot-segment-clause-after : goal.returns-then-spot-segment-clause-after
returns-then-spot-segment-clause-after c = grind (arith, common_steps)

pub returns-then-spot-segment-clause-before : goal.returns-then-spot-segment-clause-before
returns-then-spot-segment-clause-before c = grind (arith, common_steps)
