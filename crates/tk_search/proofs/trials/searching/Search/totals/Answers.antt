use Rattle.std.proofs.Common.{rules}
use Rattle.tk_search.proofs.trials.searching.Search.totals.Goals as goal

pub returns-in-Segments-clause-value : goal.returns-in-Segments-clause-value
returns-in-Segments-clause-value = search rules
