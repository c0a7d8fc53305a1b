use Rattle.std.proofs.Common.{refl}
use Rattle.tk_near.proofs.plane.unvisited.CityHint.somewhere.Goals as goal

pub returns : goal.returns
returns c = refl
