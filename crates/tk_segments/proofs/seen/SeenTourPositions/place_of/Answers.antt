use Rattle.std.proofs.Common.{◌≡◌, ◌-◌, inl, inr, arith, get_or}
use Rattle.std.proofs.lemmas.List.{get_or_read}
use Rattle.tk_tour.proofs.StoredTours.Reversing.{at_place}
use Rattle.tk_segments.proofs.SeenTours.Facts.{facts, seen_of, city_stands, city_of_spot, list_at}
use Rattle.tk_segments.proofs.seen.SeenTourPositions.place_of.Goals as goal
use Rattle.tk_segments.proofs.seen.SeenTourPositions.place_of.Goals.{After-spot_of-v}

-- the city is at its spot
seen_there : (c : After-spot_of-v) → get_or (seen_of c.args.self.now) c.spot_of-v.result.1 0 ≡ c.args.c
seen_there c =
    let s = c.args.self.now in
    let k = c.spot_of-v in
    let a = city_stands s c.args.c c.requires in
    let e = get_or_read s.place.items (c.args.c - 1) c.index.result.now a.0 c.index.ensures 0 in
    city_of_spot s c.args.c c.index.result.now k.result.1 k.result.0 c.requires e k.ensures.spot k.ensures.place

pub index-requires : goal.index-requires
index-requires c =
    let s = c.args.self.now in
    let a = city_stands s c.args.c c.requires in
    omega (arith, a.0, s.place.ok)

pub spot_of-v-requires : goal.spot_of-v-requires
spot_of-v-requires c =
    let s = c.args.self.now in
    let a = city_stands s c.args.c c.requires in
    let e = get_or_read s.place.items (c.args.c - 1) c.index.result.now a.0 c.index.ensures 0 in
    omega (arith, a.1, e)

pub overflow_sub-result : goal.overflow_sub-result
overflow_sub-result c =
    let s = c.args.self.now in
    let f = facts s in
    omega (arith, c.size.ensures, f.list, s.begins)

pub returns-then-v-self-clause-city : goal.returns-then-v-self-clause-city
returns-then-v-self-clause-city c =
    let s = c.args.self.now in
    let f = facts s in
    let k = c.spot_of-v in
    let here = seen_there (goal.at.returns-then-v-self-clause-city c).After-spot_of-v in
    list_at s _ k.result.1 c.args.c (omega (arith, f.list, s.begins, c.size.ensures, c.if-v-self.true))
    (at_place _ s.begin _ k.result.1
    (inr (
      omega (arith, f.list, s.begins, c.size.ensures, c.if-v-self.true),
      omega (arith, f.list, s.begins, c.size.ensures, c.if-v-self.true),
    ))) here

pub returns-else-v-self-clause-within : goal.returns-else-v-self-clause-within
returns-else-v-self-clause-within c =
    let s = c.args.self.now in
    let f = facts s in
    omega (arith, f.list, c.spot_of-v.ensures.inside)

pub returns-else-v-self-clause-city : goal.returns-else-v-self-clause-city
returns-else-v-self-clause-city c =
    let s = c.args.self.now in
    let f = facts s in
    let k = c.spot_of-v in
    let here = seen_there (goal.at.returns-else-v-self-clause-city c).After-spot_of-v in
    list_at s _ k.result.1 c.args.c (omega (arith, f.list, k.ensures.inside))
    (at_place _ s.begin _ k.result.1
    (inl (omega (arith, f.list, k.ensures.inside, c.if-v-self.false), omega (arith, c.if-v-self.false)))) here
