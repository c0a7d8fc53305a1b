use Rattle.std.proofs.Common.{rules}
use Rattle.tk_tour.proofs.stores.array.ArrayTourTourStore.position.Goals as goal

pub returns-clause-within : goal.returns-clause-within
returns-clause-within = search rules
