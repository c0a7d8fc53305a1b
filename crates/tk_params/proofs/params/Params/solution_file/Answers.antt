use Rattle.std.proofs.Common.{rules}
use Rattle.tk_params.proofs.params.Params.solution_file.Goals as goal

pub returns-clause-value : goal.returns-clause-value
returns-clause-value = search rules
