use Rattle.std.proofs.Common.{◌∙◌, length, ap, flat_map, arith, sym}
use Rattle.std.proofs.lemmas.List.{take_all}
use Rattle.tk_near.specs.Near.{near_of}
use Rattle.tk_descent.specs.Offers.{offers_between, first_allowed, offers}
use Rattle.tk_descent.proofs.OfferLists.Searching.{Searched-more, Searched-early, at_table, on_list}
use Rattle.tk_descent.proofs.OfferLists.Count.{tested, tested_part}
use Rattle.tk_descent.proofs.OfferLists.OnCycle.{offers_on, with_ends, near_all}
use Rattle.tk_descent.proofs.MovesOnTours.Rounds.{round_of}
use Rattle.tk_descent.proofs.gains.Gains.find_offer.Goals as goal

pub find_in-requires-clause-ends : goal.find_in-requires-clause-ends
find_in-requires-clause-ends g c =
    let C = g.S.TourStore.cities c.args.tour.now in
    with_ends C c.of-near_city-items.result.now c.args.or_segment c.args.city c.args.near.now.size
    (g.Self.Gains.size_of c.loop-near_city.self) c.loop-near_city.near_city-index
    _ (round_of C (g.met.S.TourStore.is_tour c.args.tour.now)) c.requires.fits.1
    (c.loop-near_city.invariant.range ∙ c.requires.fits.0) c.requires.most.0 c.requires.city
    c.of-near_city-items.ensures.others c.loop-near_city-test.true (c.as_slice.ensures
    ∙ c.offers_with-offers.ensures)

pub find_in-requires-clause-on_tour : goal.find_in-requires-clause-on_tour
find_in-requires-clause-on_tour g c =
    let C = g.S.TourStore.cities c.args.tour.now in
    near_all C c.of-near_city-items.result.now c.args.or_segment c.args.city c.args.near.now.size
    c.loop-near_city.near_city-index _ (round_of C (g.met.S.TourStore.is_tour c.args.tour.now)) c.requires.fits.1
    c.requires.most.0 c.requires.most.1 c.requires.city c.of-near_city-items.ensures.others c.loop-near_city-test.true
    (c.as_slice.ensures ∙ c.offers_with-offers.ensures)

pub returns-in-Some-clause-searched : goal.returns-in-Some-clause-searched
returns-in-Some-clause-searched g c =
    let d = g.Self.Gains.distance c.args.self.now in
    let C = g.S.TourStore.cities c.args.tour.now in
    on_list d
    _ _ _ _ _ (ap (flat_map (offers_between C c.args.or_segment c.args.city))
    c.of-near_city-items.ensures.value)
    (Searched-early d (offers_between C c.args.or_segment c.args.city) c.of-near_city-items.result.now
    c.loop-near_city.near_city-index 0 c.loop-near_city-test.true _ _ _ _ c.loop-near_city.invariant.searched
    (at_table d _ _ _ _ _ c.loop-near_city.invariant.table
    (on_list _ _ _ _ _ _ (c.as_slice.ensures ∙ c.offers_with-offers.ensures) c.in-Some.ensures.searched)))

pub loop-near_city-preserved : goal.loop-near_city-preserved
loop-near_city-preserved g c =
    let i = c.loop-near_city.invariant in
    let d = g.Self.Gains.distance c.args.self.now in
    let C = g.S.TourStore.cities c.args.tour.now in
    record {
      searched =
          Searched-more d (offers_between C c.args.or_segment c.args.city) c.of-near_city-items.result.now
          c.loop-near_city.near_city-index 0 c.loop-near_city-test.true _ _ _ i.searched
          (at_table d _ _ _ _ _ i.table
          (on_list _ _ _ _ _ _ (c.as_slice.ensures ∙ c.offers_with-offers.ensures) c.in_default.ensures.searched));
      table = c.find_in.ensures.same.0 ∙ i.table;
      range = c.find_in.ensures.same.1 ∙ i.range;
    }

pub returns-in-Some-clause-on_cycle : goal.returns-in-Some-clause-on_cycle
returns-in-Some-clause-on_cycle g c =
    let C = g.S.TourStore.cities c.args.tour.now in
    let h = returns-in-Some-clause-searched g c in
    offers_on (g.Self.Gains.distance c.args.self.now) (g.R.Rule.allowed c.args.rule.now C) C
    c.of-near_city-items.result.now c.args.or_segment c.args.city
    c.args.near.now.size c.in-Some.found.offer (round_of C (g.met.S.TourStore.is_tour c.args.tour.now))
    c.requires.fits.1 c.requires.most.0 c.requires.city c.of-near_city-items.ensures.others
    (ap (λ z. first_allowed (g.Self.Gains.distance c.args.self.now) (g.R.Rule.allowed c.args.rule.now C)
    (offers C c.args.or_segment z c.args.city)) c.of-near_city-items.ensures.value ∙ sym h.found)

pub returns-in-Some-clause-bound : goal.returns-in-Some-clause-bound
returns-in-Some-clause-bound g c =
    tested (g.Self.Gains.distance c.args.self.now) (g.S.TourStore.cities c.args.tour.now)
    (near_of c.args.near.now c.args.city) c.args.or_segment c.args.city _ _ c.args.near.now.width
    _ c.requires.most.0
    (omega (arith, c.of-near_city-items.ensures.count, ap length c.of-near_city-items.ensures.value))
    (returns-in-Some-clause-searched g c)

pub returns-clause-bound : goal.returns-clause-bound
returns-clause-bound g c =
    tested_part (g.Self.Gains.distance c.args.self.now) (g.S.TourStore.cities c.args.tour.now)
    c.of-near_city-items.result.now c.args.or_segment c.args.city c.loop-near_city.near_city-index
    _ _ c.args.near.now.width _ c.requires.most.0
    (omega (arith, c.of-near_city-items.ensures.count)) c.loop-near_city.invariant.searched

pub returns-clause-searched : goal.returns-clause-searched
returns-clause-searched g c =
    let C = g.S.TourStore.cities c.args.tour.now in
    on_list (g.Self.Gains.distance c.args.self.now)
    _ _ _ _ _ (ap (flat_map (offers_between C c.args.or_segment c.args.city))
    (take_all c.loop-near_city.near_city-index c.of-near_city-items.result.now
    (omega (arith, c.loop-near_city-test.false)) ∙ c.of-near_city-items.ensures.value))
    c.loop-near_city.invariant.searched
