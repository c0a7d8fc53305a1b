use Rattle.std.proofs.Common.{◌∙◌, sym, arith}
use Rattle.std.proofs.lemmas.List.{get_or_read}
use Rattle.tk_segments.proofs.SeenTours.Facts.{facts, spot_is, seen_in, list_at}
use Rattle.tk_segments.proofs.seen.SeenTour.at.Goals as goal

pub spot_at-requires : goal.spot_at-requires
spot_at-requires c = seen_in c.args.self.now c.args.k c.seen_from.result c.requires c.seen_from.ensures

pub index-requires : goal.index-requires
index-requires c =
    let s = c.args.self.now in
    let f = facts s in
    omega (arith, (spot_is s c.seen_from.result c.spot_at.result c.spot_at.ensures).0, f.order, s.order.ok)

pub returns : goal.returns
returns c =
    let s = c.args.self.now in
    let f = facts s in
    let k = spot_is s c.seen_from.result c.spot_at.result c.spot_at.ensures in
    let e = get_or_read s.order.items c.spot_at.result.place c.index.result.now (omega (arith, k.0, f.order))
    c.index.ensures 0 in
    sym (list_at s c.args.k c.seen_from.result c.index.result.now c.requires c.seen_from.ensures (k.1 ∙ sym e))
