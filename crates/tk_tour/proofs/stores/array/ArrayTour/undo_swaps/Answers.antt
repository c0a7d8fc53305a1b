use Rattle.std.proofs.Common.{refl}
use Rattle.tk_tour.proofs.stores.array.ArrayTour.undo_swaps.Goals as goal

pub returns : goal.returns
returns c = refl
