use Rattle.std.proofs.Common.{rules}
use Rattle.tk_engines.proofs.engines.between_given.search_options.Goals as goal

pub returns : goal.returns
returns c = search rules
