use Rattle.std.proofs.Common.{◌∙◌, arith}
use Rattle.std.proofs.lemmas.List.{get_or_read}
use Rattle.tk_segments.proofs.SeenTours.Facts.{facts, step_before}
use Rattle.tk_segments.proofs.seen.SeenTour.before.Goals as goal

pub index-requires : goal.index-requires
index-requires c =
    let s = c.args.self.now in
    let k = step_before s c.requires.0 c.args.spot c.before-before.result c.requires.1 c.before-before.ensures in
    omega (arith, k.in_array, (facts s).order, s.order.ok)

pub returns : goal.returns
returns c = λ city at.
    let s = c.args.self.now in
    let k = step_before s city c.args.spot c.before-before.result at c.before-before.ensures in
    let is = get_or_read s.order.items c.before-before.result.place c.index.result.now
    (omega (arith, k.in_array, (facts s).order)) c.index.ensures 0 in
    (rw is k.sees, is ∙ k.city)
