use Rattle.std.proofs.Common.{◌+◌, arith, sym}
use Rattle.std.proofs.lemmas.Bool.{lt-leb}
use Rattle.tk_rings.proofs.MeetingRoutes.{sums_fit}
use Rattle.tk_rings.proofs.capacity.Capacity.fits_between.Goals as goal

pub returns-then-first-room : goal.returns-then-first-room
returns-then-first-room g c = λ s t hs ht.
    let first = c.ahead-first.ensures.load c.args.self.now.capacity s hs in
    sym (lt-leb (s.head + t.head) c.args.room (omega (arith, first.0, c.if-first-room.true)))

pub returns : goal.returns
returns g c = λ s t hs ht.
    let first = c.ahead-first.ensures.load c.args.self.now.capacity s hs in
    let second = c.ahead-second.ensures.load c.args.self.now.capacity t ht in
    sums_fit c.args.room _ _ s t first.0 second.0 (omega (arith, c.if-first-room.false))
