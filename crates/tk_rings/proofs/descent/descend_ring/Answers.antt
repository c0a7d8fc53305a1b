use Rattle.tk_rings.proofs.descent.descend_ring.Goals as goal

pub returns-clause-descent : goal.returns-clause-descent
returns-clause-descent g c = c.descend_under.ensures.descent

pub returns-clause-wakes : goal.returns-clause-wakes
returns-clause-wakes g c = c.descend_under.ensures.descent.wakes

pub returns-clause-fits : goal.returns-clause-fits
returns-clause-fits g c = c.descend_under.ensures.descent.fitting
