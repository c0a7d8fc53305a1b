use Rattle.tk_tour.proofs.stores.array.ArrayTour.undo.Goals as goal

pub returns-clause-places : goal.returns-clause-places
returns-clause-places c = c.reverse.ensures.order
