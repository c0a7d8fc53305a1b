use Rattle.tk_writers.proofs.Pieces.Putting.{IsPut-whole}
use Rattle.tk_writers.proofs.output.pen.send_last.Goals as goal

pub returns-then-stopped : goal.returns-then-stopped
returns-then-stopped g c = λ start failed text h.
    let sent = c.send-written.ensures.put start failed text h in
    let stops = sent.stops c.if-stopped.true in
    record { part = stops.0; sent = sent.sent; cause = stops.1 }

pub returns : goal.returns
returns g c = λ start failed text h.
    IsPut-whole g.W.Sink start failed text _ _ _ (c.send-written.ensures.put start failed text h)
    c.if-stopped.false
