use Rattle.std.proofs.Common.{arith}
use Rattle.tk_segments.proofs.SeenTours.Facts.{facts}
use Rattle.tk_segments.proofs.seen.SeenTour.size.Goals as goal

pub returns : goal.returns
returns c =
    let s = c.args.self.now in
    let f = facts s in
    omega (arith, f.list, f.order, s.order.ok, f.small)
