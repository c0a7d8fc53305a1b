use Rattle.tk_route_search.proofs.Unended.{unobserved_on}
use Rattle.tk_route_search.proofs.laws.no_observer_ends_no_search.Goals as goal

pub returns : goal.returns
returns c = λ old new shown were. unobserved_on were
