use Rattle.std.proofs.Common.{sym, ◌∙◌}
use Rattle.tk_descent.proofs.OfferLists.Made.{cut_then, cut_else, makes_straight, makes_turned, makes_alone}
use Rattle.tk_descent.proofs.making.move_forward.Goals as goal

pub move_reversed-requires : goal.move_reversed-requires
move_reversed-requires g c =
    cut_else (g.met.S.TourStore.is_tour c.args.tour.now) c.requires.forward c.requires.offer
    (λ e. c.if-next-w.true (c.next.ensures.value ∙ e))

pub move_reversed-requires-then-x-e : goal.move_reversed-requires-then-x-e
move_reversed-requires-then-x-e g c =
    cut_then (g.met.S.TourStore.is_tour c.args.tour.now) c.requires.forward c.requires.offer
    (sym c.next.ensures.value ∙ c.if-next-w.false)

pub move_straight-requires : goal.move_straight-requires
move_straight-requires g c =
    cut_then (g.met.S.TourStore.is_tour c.args.tour.now) c.requires.forward c.requires.offer
    (sym c.next.ensures.value ∙ c.if-next-w.false)

pub returns-then-next-w-clause-made : goal.returns-then-next-w-clause-made
returns-then-next-w-clause-made g c m o =
    makes_turned (g.met.S.TourStore.is_tour c.args.tour.now) c.requires.forward o
    (λ e. c.if-next-w.true (c.next.ensures.value ∙ e)) c.move_reversed.ensures.moved

pub returns-then-x-e-clause-made : goal.returns-then-x-e-clause-made
returns-then-x-e-clause-made g c m o =
    makes_alone (g.met.S.TourStore.is_tour c.args.tour.now) c.requires.forward o
    (sym c.next.ensures.value ∙ c.if-next-w.false) c.if-x-e.true c.move_reversed-then-x-e.ensures.moved

pub returns-else-x-e-clause-made : goal.returns-else-x-e-clause-made
returns-else-x-e-clause-made g c m o =
    makes_straight (g.met.S.TourStore.is_tour c.args.tour.now) c.requires.forward o
    (sym c.next.ensures.value ∙ c.if-next-w.false) c.move_straight.ensures.moved
