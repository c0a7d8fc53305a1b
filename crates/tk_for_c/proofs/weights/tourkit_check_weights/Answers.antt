use Rattle.tk_for_c.proofs.weights.tourkit_check_weights.Goals as goal

pub returns-in-Some-clause-given : goal.returns-in-Some-clause-given
returns-in-Some-clause-given c = λ few.
    rw (c.in-Some.ensures.size, c.in-Some.ensures.distances) at (c.verdict_in.ensures.given few)
