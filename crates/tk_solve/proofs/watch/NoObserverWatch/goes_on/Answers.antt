use Rattle.std.proofs.Common.{refl}
use Rattle.tk_solve.proofs.watch.NoObserverWatch.goes_on.Goals as goal

pub returns : goal.returns
returns c = (refl, refl)
