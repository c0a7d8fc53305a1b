use Rattle.std.proofs.Common.{◌≡◌, ◌++◌, length, take, drop, arith}
use Rattle.std.proofs.lemmas.Grind.{common_steps}
use Rattle.tk_tour.proofs.StoredTours.Flips.{IsSizedTour-reversed_places}
use Rattle.tk_tour.proofs.stores.array.ArrayTour.reverse.Goals as goal

pub invariant_of-self : goal.invariant_of-self
invariant_of-self c =
    let s = c.args.self.now in
    let now = c.reverse_places.new in
    let e : take s.order.len (now.order ++ drop (length now.order) s.order.items) ≡ now.order =
    grind (arith, common_steps) in
    let f : take s.place.len (now.place ++ drop (length now.place) s.place.items) ≡ now.place =
    grind (arith, common_steps) in
    record {
      tour =
          rw (e, c.reverse_places.ensures.reversed, c.deref_mut.ensures.value)
          (IsSizedTour-reversed_places c.args.first c.args.count s.order.items s.tour);
      inverse = rw (e, f) c.reverse_places.ensures.places;
      fits = s.fits;
    }
