use Rattle.std.proofs.Common.{arith, ◌∙◌}
use Rattle.tk_near.specs.CityPoint.{nowhere}
use Rattle.tk_near.proofs.InPlane.TreeCandidates.{seen_more}
use Rattle.tk_near.proofs.plane.tree.search_leaf.Goals as goal

pub loop-there-preserved : goal.loop-there-preserved
loop-there-preserved g c =
    c.show.ensures ∙ seen_more (g.P.Metric.distance c.args.m.now) c.args.here.now.city c.args.leaf.now
    c.loop-there.there-index nowhere (g.K.Collector.kept_of c.args.collector.now)
    (g.K.Collector.kept_of c.loop-there.collector)
    (omega arith) c.loop-there.invariant
