use Rattle.tk_ring_search.proofs.trials.searching.RingSearch.best.Goals as goal

pub returns : goal.returns
returns g c = c.elements.ensures.elements
