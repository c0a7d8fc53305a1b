use Rattle.std.proofs.Common.{◌-◌, arith, refl, subst, length, true, false}
use Rattle.tk_rings.specs.LoadedRings.{cities_in, demands_in}
use Rattle.tk_rings.specs.Sums.{IsSpan}
use Rattle.tk_rings.proofs.SumsAlong.{load-rises}
use Rattle.tk_rings.proofs.SpannedWalks.{ahead_found, around_copy, around_found}
use Rattle.tk_rings.proofs.loaded.LoadedRing.ahead_forward.Goals as goal

pub returns-then-from-to-clause-ahead : goal.returns-then-from-to-clause-ahead
returns-then-from-to-clause-ahead g c = λ q s h.
    let me = c.args.self.now in
    ahead_found q (demands_in me) (cities_in me) _ s h (g.met.S.TourStore.is_tour me.ring.tour) refl c.args.from
    c.args.to
    c.span.result.0 c.span.result.1 c.if-from-to.true c.requires.0 c.requires.1 refl refl c.span.ensures

pub returns-then-parted-clause-ahead : goal.returns-then-parted-clause-ahead
returns-then-parted-clause-ahead g c = λ q s h.
    let me = c.args.self.now in
    let D = demands_in me in
    let C = cities_in me in
    around_copy q D C _ s h (g.met.S.TourStore.is_tour me.ring.tour) refl c.args.from c.args.to c.span-load.result.0
    c.if-from-to.false c.requires.0 refl refl
    (subst (λ v. IsSpan D C c.args.from (v - 1) c.span-load.result.0 true) c.size.ensures
    (subst (IsSpan D C c.args.from (c.size.result - 1) c.span-load.result.0) c.if-parted.true c.span-load.ensures))

pub returns-clause-ahead : goal.returns-clause-ahead
returns-clause-ahead g c = λ q s h.
    let me = c.args.self.now in
    let D = demands_in me in
    let C = cities_in me in
    around_found q D C _ s h (g.met.S.TourStore.is_tour me.ring.tour) refl c.args.from c.args.to c.span-load.result.0
    c.span-more.result.0 c.span-more.result.1 c.if-from-to.false c.requires.0 refl refl
    (subst (λ v. IsSpan D C c.args.from (v - 1) c.span-load.result.0 false) c.size.ensures
    (subst (IsSpan D C c.args.from (c.size.result - 1) c.span-load.result.0) c.if-parted.false c.span-load.ensures))
    c.span-more.ensures

pub returns-clause-light : goal.returns-clause-light
returns-clause-light g c =
    let me = c.args.self.now in
    let D = demands_in me in
    let C = cities_in me in
    let n = length C in
    let one = c.span-load.ensures in
    let two = c.span-more.ensures in
    omega (
      arith,
      one.load,
      two.load,
      load-rises D C two.at c.args.from (omega (arith, two.range, c.if-from-to.false)),
      load-rises D C one.at n (omega (arith, one.range, c.size.ensures, c.requires)),
      (me.along.summed n (omega arith)).light,
      g.met.S.TourStore.is_tour me.ring.tour,
    )
