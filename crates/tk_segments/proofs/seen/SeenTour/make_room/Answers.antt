use Rattle.std.proofs.Common.{◌≡◌, ◌≤◌, ◌+◌, ℕ, length, refl, sym, ap, subst, arith}
use Rattle.tk_segments.specs.SeenTours.{list_of, room_of, segment_count_of}
use Rattle.tk_segments.specs.Writes.{ArePaid}
use Rattle.tk_segments.specs.WriteLaws.{changed-refl, changed-le}
use Rattle.tk_segments.proofs.SeenTours.Facts.{facts, size_again}
use Rattle.tk_segments.proofs.SeenTours.Writes.{paid_rewrite, paid_alike, room_cost-all}
use Rattle.tk_segments.proofs.seen.SeenTour.make_room.Goals as goal

pub returns-then-len-self-clause-written : goal.returns-then-len-self-clause-written
returns-then-len-self-clause-written c = omega (arith, changed-refl c.args.self.now.order.items)

pub returns-clause-exact : goal.returns-clause-exact
returns-clause-exact c =
    let s = c.args.self.now in
    let t = c.rewrite.new.self in
    let g = facts t in
    let full = room_cost-all s (omega (arith, c.if-len-self.false, c.len.ensures, s.some)) in
    omega (arith, full, ap length c.rewrite.ensures.list, g.list, g.order, t.order.ok, c.len-2.ensures)

pub returns-clause-paid : goal.returns-clause-paid
returns-clause-paid c = λ writes swaps h.
    let s = c.args.self.now in
    let t = c.rewrite.new.self in
    let f = facts s in
    let g = facts t in
    let n = length (list_of s) in
    let same : n ≡ c.len-2.result =
    omega (arith, ap length c.rewrite.ensures.list, g.list, g.order, t.order.ok, c.len-2.ensures) in
    let full : room_of s + 1 ≤ segment_count_of s = omega (arith, c.if-len-self.false, c.len.ensures, s.some) in
    let P : ℕ → Type 0 = λ u. ArePaid n (room_of s) (writes + c.len-2.result) u swaps in
    subst P (sym c.rewrite.ensures.segments)
    (paid_alike n n (room_of s) (room_of s) (writes + n) (writes + c.len-2.result) 1 swaps swaps refl refl
    (omega (arith, same)) refl
    (paid_rewrite n (room_of s) writes (segment_count_of s) swaps h full))

pub returns-clause-small : goal.returns-clause-small
returns-clause-small c =
    let t = c.rewrite.new.self in
    let g = facts t in
    omega (arith, ap length c.rewrite.ensures.list, g.list, g.order, t.order.ok, c.len-2.ensures)

pub returns-clause-written : goal.returns-clause-written
returns-clause-written c =
    let s = c.args.self.now in
    let t = c.rewrite.new.self in
    let l = size_again s t (ap length c.rewrite.ensures.list) in
    omega (arith, changed-le s.order.items t.order.items, l, t.order.ok, c.len-2.ensures)
