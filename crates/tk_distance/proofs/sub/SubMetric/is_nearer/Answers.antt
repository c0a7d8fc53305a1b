use Rattle.std.proofs.lemmas.Grind.{common_steps}
use Rattle.std.proofs.Common.{arith}
use Rattle.tk_distance.proofs.sub.SubMetric.is_nearer.Goals as goal

pub is_nearer-requires-clause-a : goal.is_nearer-requires-clause-a
is_nearer-requires-clause-a g c = grind (arith, common_steps)

pub is_nearer-requires-clause-b : goal.is_nearer-requires-clause-b
is_nearer-requires-clause-b g c = grind (arith, common_steps)

pub returns : goal.returns
returns g c = grind (arith, common_steps)
