use Rattle.std.proofs.Common.{rules}
use Rattle.tk_search.proofs.trials.totals.Totals.new.Goals as goal

pub returns-clause-none : goal.returns-clause-none
returns-clause-none = search rules
