use Rattle.tk_descent.proofs.descent.descend.Goals as goal

pub returns-clause-descent : goal.returns-clause-descent
returns-clause-descent g c = c.descend_under.ensures.descent

pub returns-clause-headline : goal.returns-clause-headline
returns-clause-headline g c = c.descend_under.ensures.headline
