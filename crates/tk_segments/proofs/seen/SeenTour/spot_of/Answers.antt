use Rattle.std.proofs.Common.{◌-◌, arith}
use Rattle.std.proofs.lemmas.List.{get_or_read}
use Rattle.tk_segments.proofs.SeenTours.Facts.{city_stands, seen_at}
use Rattle.tk_segments.proofs.seen.SeenTour.spot_of.Goals as goal

pub index-requires : goal.index-requires
index-requires c =
    let s = c.args.self.now in
    omega (arith, (city_stands s c.args.c c.requires).0, s.place.ok)

pub spot_of-requires : goal.spot_of-requires
spot_of-requires c =
    let s = c.args.self.now in
    let a = city_stands s c.args.c c.requires in
    omega (arith, a.1, get_or_read s.place.items (c.args.c - 1) c.index.result.now a.0 c.index.ensures 0)

pub returns : goal.returns
returns c =
    let s = c.args.self.now in
    let a = city_stands s c.args.c c.requires in
    let k = c.spot_of in
    seen_at s c.args.c c.index.result.now k.result.1 k.result.0 c.requires
    (get_or_read s.place.items (c.args.c - 1) c.index.result.now a.0 c.index.ensures 0) k.ensures.spot
    k.ensures.place k.ensures.inside
