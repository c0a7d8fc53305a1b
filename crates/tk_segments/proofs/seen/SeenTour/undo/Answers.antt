use Rattle.std.proofs.Common.{◌+◌, ◌≤◌, ◌/◌, ◌∙◌, List, ℕ, length, ap, sym, subst, arith}
use Rattle.tk_segments.specs.SeenTours.{array_of, list_of, room_of, segment_count_of}
use Rattle.tk_segments.specs.Writes.{changed}
use Rattle.tk_segments.proofs.SeenTours.Writes.{paid_fewer}
use Rattle.tk_segments.proofs.seen.SeenTour.undo.Goals as goal

pub returns : goal.returns
returns c =
    let s = c.args.self.now in
    let r = c.reverse-written in
    let j = c.join in
    let t = c.join-2 in
    let array = t.ensures.array ∙ j.ensures.array in
    let P : List ℕ → Type 0 = λ u. changed (array_of s) u ≤ r.result in
    record {
      list = t.ensures.list ∙ j.ensures.list ∙ r.ensures.list;
      exact = r.ensures.exact;
      paid = λ writes swaps h.
          paid_fewer (length (list_of s)) (room_of s) (writes + r.result) (segment_count_of r.new.self)
          (swaps + c.args.count / 2) (segment_count_of t.new.self) (r.ensures.paid writes swaps h)
          t.ensures.segments.0 (omega (arith, t.ensures.segments, j.ensures.segments));
      room = t.ensures.room ∙ j.ensures.room ∙ r.ensures.room;
      small = r.ensures.small;
      written = subst P (sym array) r.ensures.written;
      size = ap length array ∙ r.ensures.size;
    }
