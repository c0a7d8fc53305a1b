use Rattle.std.proofs.Common.{◌≡◌, take}
use Rattle.tk_near.specs.Tree.{with_cities}
use Rattle.tk_near.proofs.plane.tree.search_leaf.Given as goal

abbrev pub invariant-loop-there : goal.invariant-loop-there
invariant-loop-there g l =
    g.K.Collector.kept_of l.collector ≡ with_cities (g.P.Metric.distance l.m) l.here.city (take l.there-index l.leaf)
    (g.K.Collector.kept_of l.fn.collector)
