use Rattle.std.proofs.Common.{rules}
use Rattle.tk_params.proofs.params.Params.search.Goals as goal

pub returns : goal.returns
returns = search rules
