use Rattle.std.proofs.Common.{◌+◌, length, arith}
use Rattle.tk_segments.specs.SeenTours.{list_of, room_of, segment_count_of}
use Rattle.tk_segments.proofs.SeenTours.Writes.{writes_bound}
use Rattle.tk_segments.proofs.tour.SegmentTour.writes.Goals as goal

pub returns-clause-paid : goal.returns-clause-paid
returns-clause-paid c =
    let s = c.args.self.now in
    writes_bound (length (list_of s.seen)) (room_of s.seen) s.writes (segment_count_of s.seen) (s.swaps + s.undo_swaps)
    (omega (arith, s.seen.some)) s.paid
