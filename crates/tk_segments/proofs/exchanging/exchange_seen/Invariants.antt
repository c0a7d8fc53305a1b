use Rattle.tk_segments.proofs.SeenTours.Stepping.{Stepping}
use Rattle.tk_segments.proofs.exchanging.exchange_seen.Given as goal

abbrev pub invariant-loop-done : goal.invariant-loop-done
invariant-loop-done l =
    Stepping l.size l.first l.count l.done l.low l.high l.initial.order l.order l.place l.segments
