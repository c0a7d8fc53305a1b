use Rattle.std.proofs.Common.{◌<◌, ◌≡◌, length}
use Rattle.tk_near.specs.Keeping.{AreFilledAmong}
use Rattle.tk_near.specs.CityPoint.{IsAt}
use Rattle.tk_near.specs.Tree.{entries_of}
use Rattle.tk_near.proofs.plane.tree.fill_from_tree.Given as goal

abbrev pub invariant-loop-here : goal.invariant-loop-here
invariant-loop-here g l =
    AreFilledAmong (g.P.Metric.distance l.m) (g.P.Metric.size_of l.m) (length (entries_of l.tree))
    (length l.fn.many.kept.items) (IsAt l.row (λ q. q < l.here-index)) l.entries
    × (length l.many.kept.items ≡ length l.fn.many.kept.items)
