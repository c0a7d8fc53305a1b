use Rattle.std.proofs.Common.{arith}
use Rattle.tk_segments.proofs.SeenTours.Facts.{facts}
use Rattle.tk_segments.proofs.seen.SeenTour.seen_from.Goals as goal

pub overflow_sub-n : goal.overflow_sub-n
overflow_sub-n c =
    let s = c.args.self.now in
    let f = facts s in
    omega (arith, f.list, c.size-n.ensures, s.begins)
