use Rattle.std.proofs.Common.{◌≡◌, ◌<◌, ◌≤◌, ◌+◌, ◌-◌, ◌∙◌, ◌⊎◌, inl, inr, ⊎_elim, ap, arith}
use Rattle.tk_tour.specs.Reversal.{begun_at, reversed_places}
use Rattle.tk_segments.proofs.SeenTours.Facts.{facts, seen_of, reversed_tour, reversed_round_tour, reversed_list}
use Rattle.tk_segments.proofs.SeenTours.Facts.{reversed_round_list}
use Rattle.tk_segments.proofs.SeenTours.Joined.{some_segments}
use Rattle.tk_segments.proofs.seen.SeenTour.turn.Goals as goal
use Rattle.tk_segments.proofs.seen.SeenTour.turn.Goals.{then-before-self, else-before-self}

pub overflow_sub-n : goal.overflow_sub-n
overflow_sub-n c = omega (arith, (facts c.args.self.now).list, c.requires.first)

pub invariant_of-self-clause-tour : goal.invariant_of-self-clause-tour
invariant_of-self-clause-tour c =
    let s = c.args.self.now in
    let f = facts s in
    reversed_tour s s.begin c.args.first (c.args.first + c.args.count - c.args.first)
    _ (c.turn.ensures.shown s.order.items (omega (arith, f.order)))

pub returns-then-count-n-clause-list : goal.returns-then-count-n-clause-list
returns-then-count-n-clause-list c = λ k lk h.
    let s = c.args.self.now in
    let f = facts s in
    let e : c.args.first + c.args.count - c.args.first ≡ c.args.count = omega arith in
    reversed_list s k c.args.first c.args.count _ (c.turn.ensures.shown s.order.items (omega (arith, f.order))
    ∙ ap (λ u. reversed_places c.args.first u (seen_of s)) e) lk (omega (arith, f.list, c.requires.first))
    (omega (arith, f.list, c.requires.count)) h

pub returns-then-count-n-clause-some : goal.returns-then-count-n-clause-some
returns-then-count-n-clause-some c =
    let segments = c.turn.new.self in
    omega (
      arith,
      some_segments segments.size segments.segments.items segments.laid segments.limits.0,
      segments.segments.ok.0,
    )

pub overflow_sub-first : goal.overflow_sub-first
overflow_sub-first c = omega (arith, (facts c.args.self.now).list, c.requires.first, c.requires.count)

pub begin_and_turn-requires-clause-v_in : goal.begin_and_turn-requires-clause-v_in
begin_and_turn-requires-clause-v_in c = omega (arith, (facts c.args.self.now).list, c.requires.first, c.requires.count)

pub overflow_sub-self-else-before-self : goal.overflow_sub-self-else-before-self
overflow_sub-self-else-before-self c = omega (arith, (facts c.args.self.now).list, c.requires.first, c.requires.count)

pub invariant_of-self-2-clause-tour : goal.invariant_of-self-2-clause-tour
invariant_of-self-2-clause-tour c =
    let s = c.args.self.now in
    let f = facts s in
    let before = c.args.first + c.args.count - s.segments.size in
    reversed_round_tour s _ before (c.args.first - before) (s.segments.size - (c.args.first - before))
    _ (c.begin_and_turn.ensures.shown s.order.items (omega (arith, f.order)))

pub invariant_of-self-2-clause-begins : goal.invariant_of-self-2-clause-begins
invariant_of-self-2-clause-begins c =
    let s = c.args.self.now in
    let r = c.requires in
    let size = c.begin_and_turn.ensures.limits.0 in
    let lt : c.args.first + c.args.count - s.segments.size < s.segments.size =
    omega (arith, (facts s).list, r.first, r.count) in
    elim c.if-before-self.branch [
      | then-before-self w ↦ omega (arith, w.self-is, w.if-before-self.true, s.begins, size)
      | else-before-self w ↦ omega (arith, w.self-is, w.if-before-self.false, lt, size)
    ]

pub returns-clause-some : goal.returns-clause-some
returns-clause-some c =
    let segments = c.begin_and_turn.new.self in
    omega (
      arith,
      some_segments segments.size segments.segments.items segments.laid segments.limits.0,
      segments.segments.ok.0,
    )

pub returns-clause-list : goal.returns-clause-list
returns-clause-list c = λ k lk h.
    let s = c.args.self.now in
    let f = facts s in
    let r = c.requires in
    let before = c.args.first + c.args.count - s.segments.size in
    let b = c.if-before-self.self in
    let low : before ≤ c.args.first = omega (arith, f.list, r.first, r.count) in
    let lt : before < s.segments.size = omega (arith, f.list, r.first, r.count) in
    let e : s.segments.size - (c.args.first - before) ≡ c.args.count =
    omega (arith, c.if-count-n.false, f.list, r.first, r.count) in
    let begin : ((before ≤ s.begin) × (b ≡ s.begin - before))
    ⊎ ((s.begin < before) × (b ≡ s.begin + s.segments.size - before)) =
    elim c.if-before-self.branch [
      | then-before-self w ↦ inl (w.if-before-self.true, w.self-is)
      | else-before-self w ↦
          inr (w.if-before-self.false, w.self-is)
    ] in
    let lb : b < s.segments.size =
    ⊎_elim
    (λ (a : (before ≤ s.begin) × (b ≡ s.begin - before)). omega (arith, a, s.begins))
    (λ (a : (s.begin < before) × (b ≡ s.begin + s.segments.size - before)). omega (arith, a, lt))
    begin in
    reversed_round_list s b k c.args.first c.args.count before _
    (c.begin_and_turn.ensures.shown s.order.items (omega (arith, f.order))
    ∙ ap (λ u. reversed_places (c.args.first - before) u (begun_at before (seen_of s))) e)
    lk (omega (arith, f.list, r.first)) (omega (arith, f.list, r.count)) lb low begin h
