use Rattle.std.proofs.Common.{◌+◌, ◌-◌, arith, refl, subst, length, true, false}
use Rattle.tk_rings.specs.LoadedRings.{cities_in, demands_in}
use Rattle.tk_rings.specs.Sums.{IsSpanBack}
use Rattle.tk_rings.proofs.SumsAlong.{load-rises}
use Rattle.tk_rings.proofs.SpannedWalks.{behind_found, round_copy, round_found}
use Rattle.tk_rings.proofs.loaded.LoadedRing.ahead_backward.Goals as goal

pub returns-then-to-from-clause-ahead : goal.returns-then-to-from-clause-ahead
returns-then-to-from-clause-ahead g c = λ q s h.
    let me = c.args.self.now in
    behind_found q (demands_in me) (cities_in me) _ s h (g.met.S.TourStore.is_tour me.ring.tour) refl c.args.from
    c.args.to
    c.span_back.result.0 c.span_back.result.1 c.if-to-from.true c.requires.0 refl refl c.span_back.ensures

pub returns-then-parted-clause-ahead : goal.returns-then-parted-clause-ahead
returns-then-parted-clause-ahead g c = λ q s h.
    let me = c.args.self.now in
    let D = demands_in me in
    let C = cities_in me in
    round_copy q D C _ s h (g.met.S.TourStore.is_tour me.ring.tour) refl c.args.from c.args.to c.span_back-load.result.0
    c.if-to-from.false c.requires.1 refl refl
    (subst (IsSpanBack D C 0 c.args.from c.span_back-load.result.0) c.if-parted.true c.span_back-load.ensures)

pub returns-clause-ahead : goal.returns-clause-ahead
returns-clause-ahead g c = λ q s h.
    let me = c.args.self.now in
    let D = demands_in me in
    let C = cities_in me in
    round_found q D C _ s h (g.met.S.TourStore.is_tour me.ring.tour) refl c.args.from c.args.to
    c.span_back-load.result.0
    c.span_back-more.result.0 c.span_back-more.result.1 c.if-to-from.false c.requires.1 refl refl
    (subst (IsSpanBack D C 0 c.args.from c.span_back-load.result.0) c.if-parted.false c.span_back-load.ensures)
    (subst (λ v. IsSpanBack D C c.args.to (v - 1) c.span_back-more.result.0 c.span_back-more.result.1) c.size.ensures
    c.span_back-more.ensures)

pub returns-clause-light : goal.returns-clause-light
returns-clause-light g c =
    let me = c.args.self.now in
    let D = demands_in me in
    let C = cities_in me in
    let n = length C in
    let one = c.span_back-load.ensures in
    let two = c.span_back-more.ensures in
    omega (
      arith,
      one.load,
      two.load,
      load-rises D C (c.args.from + 1) two.at (omega (arith, two.range, c.if-to-from.false)),
      load-rises D C (c.size.result - 1 + 1) n (omega (arith, c.size.ensures, c.requires)),
      (me.along.summed n (omega arith)).light,
      g.met.S.TourStore.is_tour me.ring.tour,
    )
