use Rattle.std.proofs.Common.{rules}
use Rattle.tk_tour.proofs.stores.array.ArrayTourPositions.city_count.Goals as goal

pub returns : goal.returns
returns = search rules
