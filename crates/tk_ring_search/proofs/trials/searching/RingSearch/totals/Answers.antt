use Rattle.std.proofs.Common.{refl}
use Rattle.tk_ring_search.proofs.trials.searching.RingSearch.totals.Goals as goal

pub returns : goal.returns
returns g c = refl
