use Rattle.tk_near.specs.Tree.{entries_of}
use Rattle.tk_near.proofs.InPlane.TreeCandidates.{kept_without_part}
use Rattle.tk_near.proofs.plane.tree.search_half.Goals as goal

pub returns-else-may_enter : goal.returns-else-may_enter
returns-else-may_enter g c =
    let m = c.args.m.now in
    let collector = c.args.collector.now in
    kept_without_part (g.P.Metric.distance m) (g.P.Metric.size_of m) (g.P.Planar.place_of m) c.args.here.now.city
    c.first.result (entries_of c.args.half.now) (g.K.Collector.kept_of collector) c.first.ensures c.requires.placed
    c.requires.within (g.met.K.Collector.climbing collector) (g.met.K.Collector.room collector) c.last.ensures
    c.may_enter.ensures
    c.if-may_enter.false
