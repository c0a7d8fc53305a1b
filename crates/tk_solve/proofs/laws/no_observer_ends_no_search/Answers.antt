use Rattle.tk_solve.proofs.Unended.{unobserved_on}
use Rattle.tk_solve.proofs.laws.no_observer_ends_no_search.Goals as goal

pub returns : goal.returns
returns c = λ old new shown were. unobserved_on were
