use Rattle.std.proofs.Common.{rules}
use Rattle.tk_tour.proofs.stores.array.ArrayTour.from_list.Goals as goal

pub returns-in_default-clause-fault : goal.returns-in_default-clause-fault
returns-in_default-clause-fault = search rules
