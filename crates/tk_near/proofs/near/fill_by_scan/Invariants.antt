use Rattle.std.proofs.Common.{◌<◌, ◌≡◌, length}
use Rattle.tk_near.specs.Keeping.{AreFilledAmong}
use Rattle.tk_near.proofs.near.fill_by_scan.Given as goal

abbrev pub invariant-loop-c : goal.invariant-loop-c
invariant-loop-c g l =
    AreFilledAmong (g.M.Metric.distance l.m) (g.M.Metric.size_of l.m) l.among (length l.fn.kept) (λ a. a < l.c)
    l.entries × (length l.kept ≡ length l.fn.kept)
