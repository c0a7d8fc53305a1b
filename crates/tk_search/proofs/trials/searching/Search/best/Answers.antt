use Rattle.std.proofs.Common.{rules}
use Rattle.tk_search.proofs.trials.searching.Search.best.Goals as goal

pub returns-in-Segments : goal.returns-in-Segments
returns-in-Segments = search rules
