use Rattle.tk_starts.proofs.NearestCities.OneTour.{nearest-unique}
use Rattle.tk_starts.proofs.nearest_tours.laws.nearest_tours_agree.Goals as goal

pub returns : goal.returns
returns g c = nearest-unique _ _ _ _ _ c.requires.first c.requires.second
