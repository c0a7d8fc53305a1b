use Rattle.tk_tour.proofs.StoredTours.Renumbering.{Renumbering}
use Rattle.tk_tour.proofs.stores.reversal.reverse_within.Given as goal

abbrev pub invariant-loop-k : goal.invariant-loop-k
invariant-loop-k l = Renumbering l.order l.place l.k l.last
