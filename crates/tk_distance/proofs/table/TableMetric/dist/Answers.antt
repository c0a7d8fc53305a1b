use Rattle.std.proofs.lemmas.Grind.{common_steps}
use Rattle.std.proofs.Common.{arith}
use Rattle.tk_distance.proofs.table.TableMetric.dist.Goals as goal

pub returns-in-Planes : goal.returns-in-Planes
returns-in-Planes c = grind (arith, common_steps)

pub returns-in-Triangle : goal.returns-in-Triangle
returns-in-Triangle c = grind (arith, common_steps)
