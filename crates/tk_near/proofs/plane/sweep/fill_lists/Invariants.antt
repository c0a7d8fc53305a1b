use Rattle.std.proofs.Common.{◌<◌, ◌≡◌, length}
use Rattle.tk_near.specs.Keeping.{AreFilled}
use Rattle.tk_near.specs.CityPoint.{IsAt}
use Rattle.tk_near.proofs.plane.sweep.fill_lists.Given as goal

abbrev pub invariant-loop-p : goal.invariant-loop-p
invariant-loop-p g l =
    AreFilled (g.P.Metric.distance l.m) (g.P.Metric.size_of l.m) (length l.fn.kept) (IsAt l.row (λ q. q < l.p))
    l.entries × (length l.kept ≡ (length l.fn.kept))
