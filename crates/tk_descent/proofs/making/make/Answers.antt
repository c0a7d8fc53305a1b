use Rattle.std.proofs.Common.{sym, ◌∙◌, subst}
use Rattle.tk_descent.specs.Machine.{IsOfferOn}
use Rattle.tk_descent.specs.Offers.{Makes, EndsIn}
use Rattle.tk_descent.proofs.OfferLists.Made.{two_steps, mirrored_move, forward_back}
use Rattle.tk_descent.proofs.MovesOnTours.Rounds.{round_of}
use Rattle.tk_descent.proofs.MovesOnTours.Views.{made_on}
use Rattle.std.proofs.Common.{length}
use Rattle.tk_descent.specs.declared.offer.Offer.TheVariants.{Two}
use Rattle.tk_descent.proofs.making.make.Goals as goal

pub flip-requires : goal.flip-requires
flip-requires g c =
    let C = g.S.TourStore.cities c.args.tour.now in
    let t =
    two_steps 3 C c.in-Two.a c.in-Two.b c.in-Two.c c.in-Two.d
    (round_of C (g.met.S.TourStore.is_tour c.args.tour.now)).distinct
    (made_on 3 (Two c.in-Two.a c.in-Two.b c.in-Two.c c.in-Two.d) C
    (subst (λ z. IsOfferOn 3 z C) c.in-Two.is c.requires.offer)) in
    let i = subst (λ z. EndsIn (length C) z) c.in-Two.is c.requires.cities in
    record { a_in = i.0; c_in = i.2; apart = t.1; steps = t.0 }

pub move_forward-requires-clause-offer : goal.move_forward-requires-clause-offer
move_forward-requires-clause-offer g c = subst (λ z. IsOfferOn 3 z (g.S.TourStore.cities c.args.tour.now)) c.in-Or.is
    c.requires.offer

pub move_forward-requires-else-next-x-clause-offer : goal.move_forward-requires-else-next-x-clause-offer
move_forward-requires-else-next-x-clause-offer g c =
    let C = g.S.TourStore.cities c.args.tour.now in
    let h = subst (λ z. IsOfferOn 3 z C) c.in-Or.is c.requires.offer in
    (h.0, mirrored_move 3 C h.0 _ _ _ _ _ _ h.1)

pub move_forward-requires-else-next-x-clause-forward : goal.move_forward-requires-else-next-x-clause-forward
move_forward-requires-else-next-x-clause-forward g c =
    let C = g.S.TourStore.cities c.args.tour.now in
    forward_back 3 C _ _ _ _ _ _ (round_of C (g.met.S.TourStore.is_tour c.args.tour.now)).distinct
    (subst (λ z. IsOfferOn 3 z C) c.in-Or.is c.requires.offer) (λ e. c.if-next-x.false (c.next.ensures.value ∙ e))

pub returns-then-next-x-clause-made : goal.returns-then-next-x-clause-made
returns-then-next-x-clause-made g c m o =
    let C = g.S.TourStore.cities c.args.tour.now in
    let E = g.S.TourStore.cities c.move_forward.new.tour in
    subst (λ z. Makes m z C E) (sym c.in-Or.is)
    (c.move_forward.ensures.made m (subst (λ z. IsOfferOn m z C) c.in-Or.is o))

pub returns-else-next-x-clause-made : goal.returns-else-next-x-clause-made
returns-else-next-x-clause-made g c m o =
    let C = g.S.TourStore.cities c.args.tour.now in
    let E = g.S.TourStore.cities c.move_forward-else-next-x.new.tour in
    let h = subst (λ z. IsOfferOn m z C) c.in-Or.is o in
    subst (λ z. Makes m z C E) (sym c.in-Or.is)
    (mirrored_move m C E
    _ _ _ _ _ _ (c.move_forward-else-next-x.ensures.made m (h.0, mirrored_move m C h.0 _ _ _ _ _ _ h.1)))
