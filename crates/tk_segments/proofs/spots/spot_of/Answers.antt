use Rattle.std.proofs.Common.{refl, arith, get_or}
use Rattle.tk_segments.proofs.NoSegment.{no_segment}
use Rattle.tk_segments.proofs.SeenTours.Spots.{spot_of_place}
use Rattle.tk_segments.proofs.spots.spot_of.Goals as goal

pub overflow_add-result : goal.overflow_add-result
overflow_add-result c =
    let k = c.index_of-index in
    let o = c.offset_in in
    let h =
    spot_of_place c.args.size o.result c.args.place c.args.segments.now
    (record { index = k.result; place = c.args.place }) (get_or c.args.segments.now k.result no_segment) no_segment
    c.requires.laid
    refl k.ensures.index o.ensures.inside o.ensures.place refl in
    omega (arith, h.1, c.requires.size)

pub returns-clause-spot : goal.returns-clause-spot
returns-clause-spot c =
    let k = c.index_of-index in
    let o = c.offset_in in
    (spot_of_place c.args.size o.result c.args.place c.args.segments.now
    (record { index = k.result; place = c.args.place })
    (get_or c.args.segments.now k.result no_segment) no_segment c.requires.laid refl k.ensures.index o.ensures.inside
    o.ensures.place refl).0

pub returns-clause-inside : goal.returns-clause-inside
returns-clause-inside c =
    let k = c.index_of-index in
    let o = c.offset_in in
    (spot_of_place c.args.size o.result c.args.place c.args.segments.now
    (record { index = k.result; place = c.args.place })
    (get_or c.args.segments.now k.result no_segment) no_segment c.requires.laid refl k.ensures.index o.ensures.inside
    o.ensures.place refl).1
