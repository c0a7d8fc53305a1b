use Rattle.std.proofs.Common.{length}
use Rattle.tk_tour.proofs.StoredTours.Renumbering.{Renumbering}
use Rattle.tk_tour.proofs.stores.placing.place_each.Given as goal

abbrev pub invariant-loop-k : goal.invariant-loop-k
invariant-loop-k l = Renumbering l.order l.place l.k (length l.order)
