use Rattle.std.proofs.Common.{refl, length}
use Rattle.tk_near.specs.Keeping.{candidate, rank}
use Rattle.tk_near.proofs.SortedInsertion.{before_false, insert_by-full}
use Rattle.tk_near.proofs.plane.sweep.meet.Goals as goal

pub returns-else-comes_before : goal.returns-else-comes_before
returns-else-comes_before g c =
    let kept = c.args.kept.now in
    let x = candidate (g.P.Metric.distance c.args.m.now) c.args.here.city c.args.there.city in
    insert_by-full rank x (length kept) kept _ c.requires.climbing refl c.requires.room
    (before_false c.comes_before.ensures c.if-comes_before.false)
