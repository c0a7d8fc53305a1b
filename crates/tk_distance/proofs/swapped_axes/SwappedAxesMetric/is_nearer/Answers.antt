use Rattle.std.proofs.lemmas.Grind.{common_steps}
use Rattle.std.proofs.Common.{arith}
use Rattle.tk_distance.proofs.swapped_axes.SwappedAxesMetric.is_nearer.Goals as goal

pub returns : goal.returns
returns g c = grind (arith, common_steps)
