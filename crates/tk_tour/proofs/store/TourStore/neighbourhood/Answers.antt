use Rattle.tk_tour.proofs.Tours.{next_city-city, prev_city-city}
use Rattle.tk_tour.proofs.store.TourStore.neighbourhood.Goals as goal

pub next-after_2-requires : goal.next-after_2-requires
next-after_2-requires g c =
    rw c.neighbours-after.ensures.after (next_city-city _ c.args.c (g.met.Self.TourStore.is_tour c.args.self.now))

pub prev-before_2-requires : goal.prev-before_2-requires
prev-before_2-requires g c =
    rw c.neighbours-after.ensures.before (prev_city-city _ c.args.c (g.met.Self.TourStore.is_tour c.args.self.now))

pub next-requires : goal.next-requires
next-requires g c =
    rw c.next-after_2.ensures (next_city-city _ _ (g.met.Self.TourStore.is_tour c.args.self.now))

pub prev-requires : goal.prev-requires
prev-requires g c =
    rw c.prev-before_2.ensures (prev_city-city _ _ (g.met.Self.TourStore.is_tour c.args.self.now))
