use Rattle.std.proofs.Common.{rules}
use Rattle.tk_tour.proofs.stores.array.ArrayTour.order.Goals as goal

pub returns : goal.returns
returns = search rules
