use Rattle.std.proofs.Common.{inl, inr, arith}
use Rattle.std.proofs.lemmas.List.{get_or_read}
use Rattle.tk_tour.proofs.StoredTours.Flips.{next_city_stored}
use Rattle.tk_tour.proofs.stores.array.ArrayTourPositions.city_after.Goals as goal

pub returns-then-k-len : goal.returns-then-k-len
returns-then-k-len c =
    let s = c.args.self.now in
    let p = c.place_of-k in
    next_city_stored s.order.items p.result c.index.result.now c.args.c s.tour.2 p.ensures.within p.ensures.city
    (inr (
      omega arith,
      get_or_read s.order.items 0 c.index.result.now (omega (arith, p.ensures.within))
          c.index.ensures 0,
    ))

pub returns-else-k-len : goal.returns-else-k-len
returns-else-k-len c =
    let s = c.args.self.now in
    let p = c.place_of-k in
    next_city_stored s.order.items p.result c.index-else-k-len.result.now c.args.c s.tour.2 p.ensures.within
    p.ensures.city
    (inl (
      omega (arith, p.ensures.within),
      get_or_read s.order.items _ c.index-else-k-len.result.now
          (omega (arith, p.ensures.within)) c.index-else-k-len.ensures 0,
    ))
