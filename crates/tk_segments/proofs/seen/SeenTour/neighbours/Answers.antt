use Rattle.std.proofs.Common.{◌∙◌, arith}
use Rattle.std.proofs.lemmas.List.{get_or_read}
use Rattle.tk_segments.proofs.SeenTours.Facts.{facts, step_after, step_before}
use Rattle.tk_segments.proofs.seen.SeenTour.neighbours.Goals as goal

pub neighbours-requires : goal.neighbours-requires
neighbours-requires c = record { spot = (c.spot_of.ensures.place, c.spot_of.ensures.is) }

pub index-requires : goal.index-requires
index-requires c =
    let s = c.args.self.now in
    let k = step_after s c.args.c c.spot_of.result c.neighbours.result.0 c.spot_of.ensures
    c.neighbours.ensures.after in
    omega (arith, k.in_array, (facts s).order, s.order.ok)

pub index-requires-2 : goal.index-requires-2
index-requires-2 c =
    let s = c.args.self.now in
    let k = step_before s c.args.c c.spot_of.result c.neighbours.result.1 c.spot_of.ensures
    c.neighbours.ensures.before in
    omega (arith, k.in_array, (facts s).order, s.order.ok)

pub returns-clause-after : goal.returns-clause-after
returns-clause-after c =
    let s = c.args.self.now in
    let k = step_after s c.args.c c.spot_of.result c.neighbours.result.0 c.spot_of.ensures
    c.neighbours.ensures.after in
    get_or_read s.order.items c.neighbours.result.0.place c.index.result.now
    (omega (arith, k.in_array, (facts s).order)) c.index.ensures 0 ∙ k.city

pub returns-clause-before : goal.returns-clause-before
returns-clause-before c =
    let s = c.args.self.now in
    let k = step_before s c.args.c c.spot_of.result c.neighbours.result.1 c.spot_of.ensures
    c.neighbours.ensures.before in
    get_or_read s.order.items c.neighbours.result.1.place c.index-2.result.now
    (omega (arith, k.in_array, (facts s).order)) c.index-2.ensures 0 ∙ k.city
