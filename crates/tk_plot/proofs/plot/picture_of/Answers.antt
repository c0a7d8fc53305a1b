use Rattle.std.proofs.Common.{rules}
use Rattle.tk_plot.proofs.plot.picture_of.Goals as goal

pub returns-clause-origin : goal.returns-clause-origin
returns-clause-origin = search rules
