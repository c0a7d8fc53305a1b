use Rattle.tk_segments.proofs.seen.SeenTour.neighbourhood.Goals as goal

pub after-after_2-requires : goal.after-after_2-requires
after-after_2-requires c = (c.after-after.result.1, (c.after-after.ensures c.args.c c.spot_of-spot.ensures).0)

pub before-before_2-requires : goal.before-before_2-requires
before-before_2-requires c = (c.before-before.result.1, (c.before-before.ensures c.args.c c.spot_of-spot.ensures).0)

pub after-requires : goal.after-requires
after-requires c =
    let one = c.after-after.ensures c.args.c c.spot_of-spot.ensures in
    (c.after-after_2.result.1, (c.after-after_2.ensures c.after-after.result.1 one.0).0)

pub before-requires : goal.before-requires
before-requires c =
    let one = c.before-before.ensures c.args.c c.spot_of-spot.ensures in
    (c.before-before_2.result.1, (c.before-before_2.ensures c.before-before.result.1 one.0).0)

pub returns : goal.returns
returns c =
    let one = c.after-after.ensures c.args.c c.spot_of-spot.ensures in
    let two = c.after-after_2.ensures c.after-after.result.1 one.0 in
    let three = c.after.ensures c.after-after_2.result.1 two.0 in
    let back = c.before-before.ensures c.args.c c.spot_of-spot.ensures in
    let back_2 = c.before-before_2.ensures c.before-before.result.1 back.0 in
    let back_3 = c.before-2.ensures c.before-before_2.result.1 back_2.0 in
    record { after = rw (three.1, two.1, one.1); before = rw (back_3.1, back_2.1, back.1) }
