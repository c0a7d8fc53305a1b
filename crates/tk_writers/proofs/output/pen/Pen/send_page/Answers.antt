use Rattle.std.proofs.Common.{refl, append-nil}
use Rattle.tk_writers.proofs.output.pen.Pen.send_page.Goals as goal

pub returns-clause-puts : goal.returns-clause-puts
returns-clause-puts g c = record {
  same = refl;
  text =
      λ start failed text h. rw (append-nil text)
      (rw c.clear.ensures (c.send-written.ensures.put start failed text (rw c.as_slice.ensures.bytes h)));
}
