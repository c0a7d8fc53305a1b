use Rattle.std.proofs.Common.{List, ℕ, sym, subst}
use Rattle.tk_tour.specs.Reversal.{IsInverse}
use Rattle.tk_tour.specs.Tour.{IsSizedTour}
use Rattle.tk_segments.proofs.tour.SegmentTour.with_limits.Goals as goal

pub new-requires-2-clause-inverse : goal.new-requires-2-clause-inverse
new-requires-2-clause-inverse c =
    let P : List ℕ → Type 0 = λ u. IsInverse u c.in_ok-place.place.items in
    subst P (sym c.in-Ok.ensures.items) c.in_ok-place.ensures.inverse

pub new-requires-2-clause-tour : goal.new-requires-2-clause-tour
new-requires-2-clause-tour c = subst IsSizedTour (sym c.in-Ok.ensures.items) c.in_ok-place.ensures.tour
