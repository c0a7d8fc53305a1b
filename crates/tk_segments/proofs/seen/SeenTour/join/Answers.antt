use Rattle.std.proofs.Common.{◌≡◌, ◌<◌, ◌≤◌, ◌+◌, ◌-◌, ◌∙◌, ◌⊎◌, inl, inr, ap, sym, subst, arith}
use Rattle.tk_tour.specs.Reversal.{begun_at}
use Rattle.tk_tour.specs.Tour.{IsSizedTour}
use Rattle.tk_segments.specs.Segments.{shown}
use Rattle.tk_segments.specs.SeenTours.{list_of}
use Rattle.tk_segments.proofs.SeenTours.Facts.{facts, begun_list}
use Rattle.tk_segments.proofs.seen.SeenTour.join.Goals as goal
use Rattle.tk_segments.proofs.seen.SeenTour.join.Goals.{Joined-first-self, then-first-self, else-first-self}

-- the list has not changed
as_before : (c : Joined-first-self) →
    (begun_at c.if-first-self.self (shown c.args.self.now.order.items c.join-first.new.self.segments.items)
    ≡ list_of c.args.self.now)
    × (c.if-first-self.self < c.args.self.now.segments.size)
as_before c =
    let s = c.args.self.now in
    let k = c.join-first in
    let b = c.if-first-self.self in
    let begin : ((k.result ≤ s.begin) × (b ≡ s.begin - k.result))
    ⊎ ((s.begin < k.result) × (b ≡ s.begin + s.segments.size - k.result)) =
    elim c.if-first-self.branch [
      | then-first-self w ↦ inl (w.if-first-self.true, w.self-is)
      | else-first-self w ↦ inr
          (w.if-first-self.false, w.self-is ∙ ap (λ u. s.begin + u - k.result) k.ensures.limits.0)
    ] in
    begun_list s b k.result _ (k.ensures.shown s.order.items (omega (arith, (facts s).order))) k.ensures.first begin

pub invariant_of-self-clause-tour : goal.invariant_of-self-clause-tour
invariant_of-self-clause-tour c =
    subst IsSizedTour (sym (as_before (goal.at.invariant_of-self-clause-tour c).Joined-first-self).0)
    c.args.self.now.tour

pub invariant_of-self-clause-begins : goal.invariant_of-self-clause-begins
invariant_of-self-clause-begins c =
    omega (
      arith,
      (as_before (goal.at.invariant_of-self-clause-begins c).Joined-first-self).1,
      c.join-first.ensures.limits,
    )

pub returns-clause-list : goal.returns-clause-list
returns-clause-list c = (as_before (goal.at.returns-clause-list c).Joined-first-self).0
