use Rattle.std.proofs.Common.{◌≡◌, ◌+◌, ◌/◌, ◌∙◌, length, sym, ap, arith}
use Rattle.tk_tour.specs.Counters.{saturated}
use Rattle.tk_segments.specs.SeenTours.{list_of, room_of, segment_count_of}
use Rattle.tk_tour.proofs.StoredTours.Places.{length-reversed_places}
use Rattle.tk_segments.proofs.SeenTours.Writes.{paid_counted, paid_alike}
use Rattle.tk_segments.proofs.tour.SegmentTour.reverse.Goals as goal

pub invariant_of-self-clause-paid : goal.invariant_of-self-clause-paid
invariant_of-self-clause-paid c =
    let s = c.args.self.now in
    let k = c.reverse-written in
    let new = k.new.self in
    let n = length (list_of s.seen) in
    let same : n ≡ length (list_of new) =
    sym (ap length k.ensures.list ∙ length-reversed_places c.args.first c.args.count (list_of s.seen)) in
    let h =
    paid_counted n (room_of s.seen) (s.writes + k.result) (segment_count_of new)
    (s.swaps + s.undo_swaps + c.args.count / 2) (saturated (s.swaps + c.args.count / 2) + s.undo_swaps)
    (k.ensures.paid s.writes (s.swaps + s.undo_swaps) s.paid) (omega (arith, s.seen.some))
    (omega (arith, s.seen.tour.1)) (omega (arith, new.segments.few, new.segments.limits)) (omega arith) in
    paid_alike n (length (list_of new)) (room_of s.seen) (room_of new) (saturated (s.writes + k.result))
    _ (segment_count_of new) (saturated (s.swaps + c.args.count / 2) + s.undo_swaps) _
    same (sym k.ensures.room) (omega arith) (omega arith) h

pub returns-clause-writes : goal.returns-clause-writes
returns-clause-writes c =
    c.saturating_add-self.ensures ∙ ap (λ n. saturated (c.args.self.now.writes + n)) c.reverse-written.ensures.exact
