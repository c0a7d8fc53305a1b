use Rattle.std.proofs.Common.{◌∙◌, sym}
use Rattle.tk_near.specs.Keeping.{candidate}
use Rattle.tk_near.proofs.SortedInsertion.{before_false}
use Rattle.tk_near.proofs.InPlane.TreeCandidates.{with_candidate-out, with_city-other, with_city-same}
use Rattle.tk_near.proofs.plane.tree.show.Goals as goal
use Rattle.tk_near.proofs.plane.tree.show.Goals.{else-there-here-via-then-there-here+else-comes_before}
use Rattle.tk_near.proofs.plane.tree.show.Goals.{else-there-here-via-else-there-here}

pub returns-else-there-here : goal.returns-else-there-here
returns-else-there-here g c =
    let dist = g.P.Metric.distance c.args.m.now in
    let here = c.args.here.now in
    let there = c.args.there.now in
    let collector = c.args.collector.now in
    let kept = g.K.Collector.kept_of collector in
    elim c.else-there-here.branch [
      | else-there-here-via-then-there-here+else-comes_before w ↦
          let out = rw w.last.ensures at (before_false w.comes_before.ensures w.if-comes_before.false) in
          sym (with_city-other dist here.city there kept w.if-there-here.true
          ∙ with_candidate-out (candidate dist here.city there.city) kept (g.met.K.Collector.climbing collector)
          (g.met.K.Collector.room collector) out)
      | else-there-here-via-else-there-here w ↦ sym (with_city-same dist here.city there kept w.if-there-here.false)
    ]
