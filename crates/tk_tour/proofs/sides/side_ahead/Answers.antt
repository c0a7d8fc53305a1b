use Rattle.std.proofs.Common.{arith}
use Rattle.tk_tour.proofs.StoredTours.Sides.{cities_after, inner_side, outer_side}
use Rattle.tk_tour.proofs.sides.side_ahead.Goals as goal

pub place_of-start-requires : goal.place_of-start-requires
place_of-start-requires g c =
    (cities_after _ _ _ _ _ (g.met.S.Positions.is_tour c.args.tour.now).2 c.requires).0

pub returns-then-inner-n-clause-side : goal.returns-then-inner-n-clause-side
returns-then-inner-n-clause-side g c =
    let from = c.place_of-start in
    let to = c.place_of in
    inner_side _ c.city_count-n.result _ _ _ _ c.path_length-inner.result from.result to.result
    (g.met.S.Positions.is_tour c.args.tour.now).2 c.city_count-n.ensures c.requires from.ensures.within
    from.ensures.city
    to.ensures.within to.ensures.city c.path_length-inner.ensures.length (omega (arith, c.if-inner-n.true))

pub place_of-requires-2 : goal.place_of-requires-2
place_of-requires-2 g c =
    (cities_after _ _ _ _ _ (g.met.S.Positions.is_tour c.args.tour.now).2 c.requires).1

pub returns-clause-side : goal.returns-clause-side
returns-clause-side g c =
    let from = c.place_of-start in
    let to = c.place_of in
    let other = c.place_of-2 in
    outer_side _ c.city_count-n.result _ _ _ _ c.path_length-inner.result from.result to.result
    (g.met.S.Positions.is_tour c.args.tour.now).2 c.city_count-n.ensures c.requires from.ensures.within
    from.ensures.city
    to.ensures.within to.ensures.city c.path_length-inner.ensures.length other.result other.ensures.within
    other.ensures.city (omega (arith, c.if-inner-n.false))

pub returns-clause-inner : goal.returns-clause-inner
returns-clause-inner g c = λ equal.
    absurd (omega (arith, equal, c.city_count-n.ensures, c.path_length-inner.ensures.fits, c.if-inner-n.false))
