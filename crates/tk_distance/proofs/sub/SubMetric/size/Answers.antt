use Rattle.std.proofs.Common.{refl}
use Rattle.tk_distance.proofs.sub.SubMetric.size.Goals as goal

pub returns : goal.returns
returns g c = refl
