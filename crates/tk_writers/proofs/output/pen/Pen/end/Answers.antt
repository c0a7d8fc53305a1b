use Rattle.tk_writers.proofs.output.pen.Pen.end.Goals as goal

pub returns : goal.returns
returns g c = λ start failed text h. c.send_last.ensures start failed text (rw c.as_slice.ensures.bytes h)
