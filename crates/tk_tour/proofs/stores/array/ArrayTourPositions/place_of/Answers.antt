use Rattle.std.proofs.Common.{◌≡◌, ◌-◌, ◌∙◌, ap, arith, get_or}
use Rattle.std.proofs.lemmas.List.{get_or_read}
use Rattle.tk_tour.proofs.Tours.{city_at_place}
use Rattle.tk_tour.proofs.stores.array.ArrayTourPositions.place_of.Goals as goal
use Rattle.tk_tour.proofs.stores.array.ArrayTourPositions.place_of.Goals.{After-index}

-- the value read is the position of the city
is_read : (c : After-index) → c.index.result.now ≡ get_or c.args.self.now.place.items (c.args.c - 1) 0
is_read c =
    get_or_read c.args.self.now.place.items (c.args.c - 1) c.index.result.now
    (omega (arith, c.args.self.now.inverse.0, c.requires)) c.index.ensures 0

pub returns-clause-within : goal.returns-clause-within
returns-clause-within c =
    let s = c.args.self.now in
    let h = city_at_place s.order.items s.place.items c.args.c s.tour.2 s.inverse c.requires.0 c.requires.1 in
    omega (arith, is_read (goal.at.returns-clause-within c).After-index, h.0)

pub returns-clause-city : goal.returns-clause-city
returns-clause-city c =
    let s = c.args.self.now in
    let h = city_at_place s.order.items s.place.items c.args.c s.tour.2 s.inverse c.requires.0 c.requires.1 in
    ap (λ v. get_or s.order.items v 0) (is_read (goal.at.returns-clause-city c).After-index) ∙ h.1
