use Rattle.std.proofs.Common.{◌∙◌, length, length-take, ap, flat_map, arith, refl, sym, subst}
use Rattle.std.proofs.lemmas.List.{take_all}
use Rattle.std.proofs.lemmas.List.Elements.{All-take}
use Rattle.tk_near.specs.Near.{near_of}
use Rattle.tk_descent.specs.Offers.{offers_between, first_allowed, offers, offers_at}
use Rattle.tk_problem.specs.declared.limits.TheConstants.{CANDIDATE_LIMIT}
use Rattle.tk_descent.specs.Sharing.{IsRemovedSegment}
use Rattle.tk_descent.proofs.OfferLists.Searching.{Searched-more, Searched-early, Searched-none, with_city, on_list}
use Rattle.tk_descent.proofs.OfferLists.Searching.{beside_offers, Searched-added}
use Rattle.tk_descent.specs.Ruled.{Each, IsOnTour}
use Rattle.tk_descent.proofs.OfferLists.Count.{tested, tested_part}
use Rattle.tk_descent.proofs.OfferLists.OnCycle.{offers_on, near_on}
use Rattle.tk_descent.proofs.MovesOnTours.Rounds.{round_of}
use Rattle.tk_descent.proofs.looks.looking.find_offer.Goals as goal

pub loop-k-init : goal.loop-k-init
loop-k-init g c =
    record {
      searched = Searched-none (g.M.Metric.distance c.args.metric.now) 0 (omega arith);
      kept = refl;
      known = c.look_beside-from.ensures.known;
      cached = c.requires.cached;
    }

pub returns-in-Some-clause-searched : goal.returns-in-Some-clause-searched
returns-in-Some-clause-searched g c =
    let d = g.M.Metric.distance c.args.metric.now in
    let C = g.S.TourStore.cities c.args.tour.now in
    Searched-added d (offers_at C c.args.or_segment c.args.near.now c.args.city) _ _ _ _
    (omega (arith, c.saturating_add.ensures, c.loop-k.invariant.kept))
    (on_list d
    _ _ _ _ _ (ap (flat_map (offers_between C c.args.or_segment c.args.city)) c.of-list.ensures.value)
    (Searched-early d (offers_between C c.args.or_segment c.args.city) c.of-list.result.now c.loop-k.k
    0 c.loop-k-test.true _ _ _ _ c.loop-k.invariant.searched
    (with_city C c.args.or_segment _ _ _ c.look_beside-from.result c.look_beside-y.result _ _ d _ _ _
    c.segment_count.ensures.value c.size.ensures.count c.pieces_of-all.ensures.value
    c.look_beside-from.ensures.city c.look_beside-from.ensures.after c.look_beside-from.ensures.before
    c.look_beside-y.ensures.city c.look_beside-y.ensures.after c.look_beside-y.ensures.before
    c.in-Some.ensures)))

pub loop-k-preserved : goal.loop-k-preserved
loop-k-preserved g c =
    let d = g.M.Metric.distance c.args.metric.now in
    let C = g.S.TourStore.cities c.args.tour.now in
    record {
      searched = Searched-more d (offers_between C c.args.or_segment c.args.city) c.of-list.result.now
          c.loop-k.k 0 c.loop-k-test.true _ _ _ c.loop-k.invariant.searched
          (with_city C c.args.or_segment _ _ _ c.look_beside-from.result c.look_beside-y.result _ _ d _ _ _
          c.segment_count.ensures.value c.size.ensures.count c.pieces_of-all.ensures.value
          c.look_beside-from.ensures.city c.look_beside-from.ensures.after c.look_beside-from.ensures.before
          c.look_beside-y.ensures.city c.look_beside-y.ensures.after c.look_beside-y.ensures.before
          c.in_default.ensures);
      kept = c.loop-k.invariant.kept;
      known = c.look_beside-y.ensures.known;
      cached = c.cached_distance-across.ensures.known;
    }

pub returns-in-Some-clause-on_cycle : goal.returns-in-Some-clause-on_cycle
returns-in-Some-clause-on_cycle g c =
    let C = g.S.TourStore.cities c.args.tour.now in
    let h = returns-in-Some-clause-searched g c in
    offers_on (g.M.Metric.distance c.args.metric.now) (g.R.Rule.allowed c.args.rule.now C) C c.of-list.result.now
    c.args.or_segment c.args.city
    c.args.near.now.size c.in-Some.found.offer (round_of C (g.met.S.TourStore.is_tour c.args.tour.now))
    c.requires.fits.1 c.requires.most.0 c.requires.city c.of-list.ensures.others
    (ap (λ z. first_allowed (g.M.Metric.distance c.args.metric.now) (g.R.Rule.allowed c.args.rule.now C)
    (offers C c.args.or_segment z c.args.city)) c.of-list.ensures.value ∙ sym h.found)

pub returns-in-Some-clause-bound : goal.returns-in-Some-clause-bound
returns-in-Some-clause-bound g c =
    tested (g.M.Metric.distance c.args.metric.now) (g.S.TourStore.cities c.args.tour.now)
    (near_of c.args.near.now c.args.city) c.args.or_segment c.args.city _ _ c.args.near.now.width
    _ c.requires.most.0
    (omega (arith, c.of-list.ensures.count, ap length c.of-list.ensures.value))
    (returns-in-Some-clause-searched g c)

pub try_city-requires-clause-pieces : goal.try_city-requires-clause-pieces
try_city-requires-clause-pieces g c =
    let m = c.args.metric.now in
    All-take (IsRemovedSegment (g.M.Metric.size_of m) (g.M.Metric.distance m) c.look_beside-from.result.city)
    c.segment_count.result c.pieces_of-all.result c.pieces_of-all.ensures.shared

pub returns-clause-searched : goal.returns-clause-searched
returns-clause-searched g c =
    let d = g.M.Metric.distance c.args.metric.now in
    let C = g.S.TourStore.cities c.args.tour.now in
    Searched-added d (offers_at C c.args.or_segment c.args.near.now c.args.city) _ _ _ _
    (omega (arith, c.saturating_add-2.ensures, c.loop-k.invariant.kept))
    (on_list d
    _ _ _ _ _ (ap (flat_map (offers_between C c.args.or_segment c.args.city))
    (take_all c.loop-k.k c.of-list.result.now (omega (arith, c.loop-k-test.false))
    ∙ c.of-list.ensures.value)) c.loop-k.invariant.searched)

pub returns-clause-bound : goal.returns-clause-bound
returns-clause-bound g c =
    tested (g.M.Metric.distance c.args.metric.now) (g.S.TourStore.cities c.args.tour.now)
    (near_of c.args.near.now c.args.city) c.args.or_segment c.args.city _ _ c.args.near.now.width
    _ c.requires.most.0
    (omega (arith, c.of-list.ensures.count, ap length c.of-list.ensures.value))
    (returns-clause-searched g c)

pub try_city-requires-clause-room : goal.try_city-requires-clause-room
try_city-requires-clause-room g c =
    omega (
      arith,
      tested_part (g.M.Metric.distance c.args.metric.now) (g.S.TourStore.cities c.args.tour.now) c.of-list.result.now
          c.args.or_segment c.args.city c.loop-k.k 0 _ CANDIDATE_LIMIT _ c.requires.most.0
          (omega (arith, c.of-list.ensures.count, c.width.ensures)) c.loop-k.invariant.searched,
      c.requires.most.1,
      length-take c.segment_count.result c.pieces_of-all.result,
      c.segment_count.ensures.limit,
    )

pub try_city-requires-clause-on_tour : goal.try_city-requires-clause-on_tour
try_city-requires-clause-on_tour g c =
    let C = g.S.TourStore.cities c.args.tour.now in
    subst (λ z. Each (IsOnTour C) z)
    (sym (beside_offers C c.args.or_segment _ _ _ c.look_beside-from.result c.look_beside-y.result _ _
    c.segment_count.ensures.value c.size.ensures.count c.pieces_of-all.ensures.value
    c.look_beside-from.ensures.city c.look_beside-from.ensures.after c.look_beside-from.ensures.before
    c.look_beside-y.ensures.city c.look_beside-y.ensures.after c.look_beside-y.ensures.before))
    (near_on C c.of-list.result.now c.args.or_segment c.args.city c.args.near.now.size c.loop-k.k
    (round_of C (g.met.S.TourStore.is_tour c.args.tour.now)) c.requires.fits.1 c.requires.most.0 c.requires.most.1
    c.requires.city c.of-list.ensures.others c.loop-k-test.true)
