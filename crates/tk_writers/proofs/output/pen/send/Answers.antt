use Rattle.tk_writers.proofs.Pieces.Putting.{IsPut-sent}
use Rattle.tk_writers.proofs.output.pen.send.Goals as goal

pub returns-clause-put : goal.returns-clause-put
returns-clause-put g c = λ start failed text h.
    let e = c.write_whole-taken.ensures in
    IsPut-sent g.W.Sink start failed text _ _ _ _ _ _ c.if-stopped.false e.bound e.sent
    e.whole e.part h
