use Rattle.std.proofs.Common.{◌≤◌, ◌+◌, ◌*◌, ◌/◌, ◌∙◌, ℕ, List, length, refl, sym, ap, subst, arith}
use Rattle.tk_tour.specs.Reversal.{reversed_places}
use Rattle.tk_segments.specs.SeenTours.{array_of, list_of, room_of, segment_count_of}
use Rattle.tk_segments.specs.Writes.{ArePaid, changed}
use Rattle.tk_tour.proofs.StoredTours.Places.{length-reversed_places}
use Rattle.tk_segments.proofs.SeenTours.Facts.{facts, size_again, seen_in}
use Rattle.tk_segments.proofs.SeenTours.Writes.{paid_exchange, paid_turn, paid_alike, reversal_cost-long}
use Rattle.tk_segments.proofs.SeenTours.Writes.{reversal_cost-short}
use Rattle.tk_segments.proofs.seen.SeenTour.reverse.Goals as goal

pub exchange-requires-clause-first : goal.exchange-requires-clause-first
exchange-requires-clause-first c =
    let s = c.args.self.now in
    omega (arith, seen_in s c.args.first c.seen_from-v.result c.requires.first c.seen_from-v.ensures, (facts s).list)

pub returns-then-count-self : goal.returns-then-count-self
returns-then-count-self c =
    let s = c.args.self.now in
    let k = c.exchange in
    let n = length (list_of s) in
    let m = c.args.count / 2 in
    let P : ℕ → Type 0 = λ u. (writes swaps : ℕ) → ArePaid n (room_of s) writes (segment_count_of s) swaps →
    ArePaid n (room_of s) (writes + k.result) u (swaps + m) in
    let list = k.ensures.list c.args.first c.requires.first c.seen_from-v.ensures in
    record {
      list = list;
      exact = k.ensures.count ∙ sym (reversal_cost-short s c.args.count c.if-count-self.true);
      paid = subst P (sym k.ensures.segments)
          (λ writes swaps h. paid_alike n n (room_of s) (room_of s) (writes + 2 * m) (writes + k.result)
          (segment_count_of s) (swaps + m) (swaps + m) refl refl (omega (arith, k.ensures.count)) refl
          (paid_exchange n (room_of s) writes (segment_count_of s) swaps m h));
      room = k.ensures.room;
      small = omega (arith, k.ensures.count, c.requires.count);
      written = k.ensures.written;
      size = size_again s k.new.self (ap length list ∙ length-reversed_places c.args.first c.args.count (list_of s));
    }

pub turn-requires-clause-first : goal.turn-requires-clause-first
turn-requires-clause-first c =
    let s = c.args.self.now in
    omega (
      arith,
      seen_in s c.args.first c.seen_from-v.result c.requires.first c.seen_from-v.ensures,
      (facts s).list,
      ap length c.make_room-written.ensures.list,
    )

pub returns : goal.returns
returns c =
    let s = c.args.self.now in
    let m = c.make_room-written in
    let t = c.turn in
    let least = (s.short + 1) / 2 in
    let P : ℕ → Type 0 = λ u. u ≤ room_of s * least in
    let Q : List ℕ → Type 0 = λ u. changed (array_of s) u ≤ m.result in
    record {
      list = t.ensures.list c.args.first (rw m.ensures.list c.requires.first)
          (rw (m.ensures.list, m.ensures.begin) c.seen_from-v.ensures)
          ∙ ap (reversed_places c.args.first c.args.count) m.ensures.list;
      exact = m.ensures.exact ∙ sym (reversal_cost-long s c.args.count c.if-count-self.false);
      paid = λ writes swaps h.
          paid_turn (length (list_of s)) (room_of s) (writes + m.result) (segment_count_of m.new.self) swaps
          (segment_count_of t.new.self)
          (c.args.count / 2) least (m.ensures.paid writes swaps h) t.ensures.some t.ensures.segments
          (subst P (sym (facts s).list) s.enough) (omega (arith, c.if-count-self.false));
      room = t.ensures.room ∙ m.ensures.room;
      small = m.ensures.small;
      written = subst Q (sym t.ensures.array) m.ensures.written;
      size = ap length t.ensures.array ∙ size_again s m.new.self (ap length m.ensures.list);
    }
