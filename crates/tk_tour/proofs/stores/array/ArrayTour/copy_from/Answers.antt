use Rattle.std.proofs.Common.{rules}
use Rattle.tk_tour.proofs.stores.array.ArrayTour.copy_from.Goals as goal

pub invariant_of-self : goal.invariant_of-self
invariant_of-self = search rules
