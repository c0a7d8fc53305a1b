use Rattle.std.proofs.Common.{arith}
use Rattle.std.proofs.lemmas.Grind.{common_steps}
use Rattle.tk_distance.proofs.table.TableMetric.size.Goals as goal

pub returns-in-Triangle : goal.returns-in-Triangle
returns-in-Triangle c = grind (arith, common_steps)
