use Rattle.std.proofs.Common.{sym, ◌∙◌, ap, subst, rules}
use Rattle.tk_descent.specs.Machine.{IsOfferOn}
use Rattle.tk_descent.specs.declared.offer.Offer.TheVariants.{Or}
use Rattle.tk_descent.proofs.MovesOnTours.Rounds.{round_of}
use Rattle.tk_descent.proofs.OfferLists.Made.{forward_back}
use Rattle.tk_rings.specs.Capacities.{is_allowed}
use Rattle.tk_rings.specs.LoadedRings.{cities_in}
use Rattle.tk_rings.proofs.AllowedOffers.{mirrored_allowed, mirrored_on}
use Rattle.tk_rings.proofs.capacity.CapacityRuleLoadedRing.allows.Goals as goal

pub allows_forward-requires-else-next-x-clause-on_tour : goal.allows_forward-requires-else-next-x-clause-on_tour
allows_forward-requires-else-next-x-clause-on_tour g c =
    let C = cities_in c.args.tour.now in
    let o = c.in-Or in
    mirrored_on C o.a o.x o.e o.b o.y o.w (subst (λ z. IsOfferOn 3 z C) o.is c.requires.on_tour)

pub allows_forward-requires-else-next-x-clause-forward : goal.allows_forward-requires-else-next-x-clause-forward
allows_forward-requires-else-next-x-clause-forward g c =
    let C = cities_in c.args.tour.now in
    let o = c.in-Or in
    forward_back 3 C o.a o.x o.e o.b o.y o.w (round_of C (g.met.S.TourStore.is_tour c.args.tour.now.ring.tour)).distinct
    (subst (λ z. IsOfferOn 3 z C) o.is c.requires.on_tour) (λ e. c.if-next-x.false (c.next.ensures ∙ e))

pub returns-else-next-x : goal.returns-else-next-x
returns-else-next-x g c =
    let me = c.args.self.now in
    let C = cities_in c.args.tour.now in
    let o = c.in-Or in
    c.allows_forward-else-next-x.ensures
    ∙ ap (λ demands. is_allowed me.capacity demands C (Or o.b o.e o.x o.a o.w o.y)) c.requires.suits
    ∙ mirrored_allowed me.capacity me.demands.now C
    (round_of C (g.met.S.TourStore.is_tour c.args.tour.now.ring.tour)).distinct c.requires.fits o.a o.x o.e o.b o.y o.w
    (subst (λ z. IsOfferOn 3 z C) o.is c.requires.on_tour)
    ∙ ap (is_allowed me.capacity me.demands.now C) (sym o.is)

pub returns-in-Two : goal.returns-in-Two
returns-in-Two = search rules
