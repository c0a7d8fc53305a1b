use Rattle.std.proofs.lemmas.Grind.{common_steps}
use Rattle.std.proofs.Common.{arith}
use Rattle.tk_distance.proofs.table.Table.of.Goals as goal

pub returns-in-Points-clause-distances : goal.returns-in-Points-clause-distances
returns-in-Points-clause-distances c = grind (arith, common_steps)

pub returns-in-Lower-clause-size : goal.returns-in-Lower-clause-size
returns-in-Lower-clause-size c = grind (arith, common_steps)

pub returns-in-Lower-clause-distances : goal.returns-in-Lower-clause-distances
returns-in-Lower-clause-distances c = grind (arith, common_steps)
