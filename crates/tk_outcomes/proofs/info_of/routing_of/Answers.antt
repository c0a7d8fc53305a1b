use Rattle.std.proofs.Common.{rules}
use Rattle.tk_outcomes.proofs.info_of.routing_of.Goals as goal

pub returns : goal.returns
returns c = search rules
