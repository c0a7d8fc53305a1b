use Rattle.std.proofs.Common.{◌≡◌, ◌∙◌, arith, inl, inr, subst, sym, refl, None, Some, false}
use Rattle.std.proofs.lemmas.Bool.{cases_eq, both_ways}
use Rattle.tk_near.specs.Near.{near_of}
use Rattle.tk_descent.specs.Offers.{first_allowed, offers}
use Rattle.tk_descent.specs.WakeMachine.{HasNoOfferUnder}
use Rattle.tk_descent.proofs.MovesOnTours.Paths.{IsTable}
use Rattle.tk_descent.proofs.MovesOnTours.Rounds.{round_of}
use Rattle.tk_descent.proofs.WakeExecutions.Machines.{none_improves, some_improves}
use Rattle.tk_descent.proofs.optimum.is_local_optimum_under.Given.{Over}
use Rattle.tk_descent.proofs.optimum.is_local_optimum_under.Goals as goal

-- the laws of the distances
laws : (g : Over) (metric : g.row.M.Denot) → IsTable (g.M.Metric.distance metric)
laws g metric = (g.met.M.Metric.symmetric metric, g.met.M.Metric.distance_limit metric)

pub loop-x-preserved : goal.loop-x-preserved
loop-x-preserved g c =
    let i = c.loop-x.invariant in
    let d = g.M.Metric.distance c.args.metric.now in
    let fits = g.R.Rule.Fits c.args.rule.now in
    let may = g.R.Rule.allowed c.args.rule.now in
    let near = near_of c.args.near.now in
    let m = c.args.or_segment in
    let x = c.loop-x.x in
    let C = g.S.TourStore.cities c.args.tour.now in
    let none : HasNoOfferUnder fits d near m x C =
    none_improves fits may d near m x C (g.met.R.Rule.exact c.args.rule.now) (laws g c.args.metric.now)
    (round_of _ (g.met.S.TourStore.is_tour c.args.tour.now)).distinct c.requires.tour c.requires.most.1
    (subst (λ z. first_allowed z (may C) (offers C m (near x) x) ≡ None) i.table
    (sym c.in_default.ensures.searched.found)) in
    record {
      none = λ k h l. elim (cases_eq k x) [
        | inl e ↦ subst (λ z. HasNoOfferUnder fits d near m z C) (sym e) none
        | inr ne ↦ i.none k h (omega (arith, ne))
      ];
      table = c.find_offer.ensures.same.0 ∙ i.table;
      range = c.find_offer.ensures.same.1 ∙ i.range;
    }

pub returns-in-Some : goal.returns-in-Some
returns-in-Some g c =
    let i = c.loop-x.invariant in
    let d = g.M.Metric.distance c.args.metric.now in
    let fits = g.R.Rule.Fits c.args.rule.now in
    let may = g.R.Rule.allowed c.args.rule.now in
    let near = near_of c.args.near.now in
    let m = c.args.or_segment in
    let x = c.loop-x.x in
    let C = g.S.TourStore.cities c.args.tour.now in
    let o = c.in-Some._found.offer in
    let tour = round_of _ (g.met.S.TourStore.is_tour c.args.tour.now) in (
      λ t. absurd (both_ways false refl t),
      λ opt.
          let w =
          some_improves fits may (g.met.R.Rule.exact c.args.rule.now) d near m x C o (laws g c.args.metric.now)
          c.requires.most.1 tour.distinct c.requires.tour
          (subst (λ z. first_allowed z (may C) (offers C m (near x) x) ≡ Some o) i.table
          (sym c.in-Some.ensures.searched.found)) c.in-Some.ensures.on_cycle.0 in
          absurd (opt x
          ((tour.members x).1
          (omega (arith, c.loop-x.auto.x), omega (arith, c.size-x-end.ensures.count, c.loop-x-test.true))) o w.0
          w.1),
    )

pub returns : goal.returns
returns g c =
    let i = c.loop-x.invariant in
    let tour = round_of _ (g.met.S.TourStore.is_tour c.args.tour.now) in (
      λ t x h. let r = (tour.members x).0 h in
          i.none x r.0 (omega (arith, c.size-x-end.ensures.count, c.loop-x-test.false, r.1)),
      λ opt. refl,
    )
