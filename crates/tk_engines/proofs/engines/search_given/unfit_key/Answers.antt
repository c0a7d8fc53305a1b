use Rattle.std.proofs.Common.{rules}
use Rattle.tk_engines.proofs.engines.search_given.unfit_key.Goals as goal

pub returns-then-is_some : goal.returns-then-is_some
returns-then-is_some c = search rules
