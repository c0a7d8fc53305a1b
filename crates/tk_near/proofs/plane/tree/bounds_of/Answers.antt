use Rattle.std.proofs.Common.{arith, take}
use Rattle.std.proofs.lemmas.List.{take_all}
use Rattle.std.proofs.lemmas.List.Elements.{All-more, All-weaker}
use Rattle.tk_near.specs.CityPoint.{nowhere}
use Rattle.tk_near.specs.Tree.{IsInBox}
use Rattle.tk_near.proofs.plane.tree.bounds_of.Goals as goal

pub loop-p-preserved : goal.loop-p-preserved
loop-p-preserved c =
    let row = c.args.row.now in
    let i = c.loop-p.p-index in
    let bounds = c.widened-bounds.result in
    All-more (IsInBox bounds) row i nowhere (omega arith)
    (All-weaker (IsInBox c.loop-p.bounds) (IsInBox bounds) c.widened-bounds.ensures.others (take i row)
    c.loop-p.invariant) c.widened-bounds.ensures.this

pub returns : goal.returns
returns c = rw (take_all c.loop-p.p-index c.args.row.now (omega arith)) at c.loop-p.invariant
