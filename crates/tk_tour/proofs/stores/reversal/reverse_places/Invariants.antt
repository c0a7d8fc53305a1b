use Rattle.std.proofs.Common.{length}
use Rattle.tk_tour.proofs.StoredTours.Reversing.{Reversing}
use Rattle.tk_tour.proofs.stores.reversal.reverse_places.Given as goal

abbrev pub invariant-loop-done : goal.invariant-loop-done
invariant-loop-done l =
    Reversing (length l.initial.order) l.first l.count l.done l.low l.high l.initial.order l.order l.place
