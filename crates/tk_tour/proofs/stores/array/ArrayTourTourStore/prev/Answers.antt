use Rattle.std.proofs.Common.{◌≡◌, ◌-◌, ◌∙◌, ap, get_or, length, inl, inr, arith, rules}
use Rattle.std.proofs.lemmas.List.{get_or_read}
use Rattle.tk_tour.proofs.StoredTours.Flips.{prev_city_stored}
use Rattle.tk_tour.proofs.stores.array.ArrayTourTourStore.prev.Goals as goal

pub returns-then-k-eq0 : goal.returns-then-k-eq0
returns-then-k-eq0 c =
    let s = c.args.self.now in
    let p = c.place_of-k in
    let n : c.len.result ≡ length s.order.items = search rules in
    prev_city_stored s.order.items p.result c.index.result.now c.args.c s.tour.2 p.ensures.within p.ensures.city
    (inr (
      omega arith,
      get_or_read s.order.items (c.len.result - 1) c.index.result.now
          (omega (arith, n, p.ensures.within)) c.index.ensures 0 ∙ ap (λ v. get_or s.order.items (v - 1) 0) n,
    ))

pub returns-else-k-eq0 : goal.returns-else-k-eq0
returns-else-k-eq0 c =
    let s = c.args.self.now in
    let p = c.place_of-k in
    prev_city_stored s.order.items p.result c.index-else-k-eq0.result.now c.args.c s.tour.2 p.ensures.within
    p.ensures.city
    (inl (
      omega arith,
      get_or_read s.order.items _ c.index-else-k-eq0.result.now (omega (arith, p.ensures.within))
          c.index-else-k-eq0.ensures 0,
    ))
