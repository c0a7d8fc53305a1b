use Rattle.std.proofs.Common.{rules}
use Rattle.tk_explain.proofs.unread.read_failure.Goals as goal

pub returns-in-Parameters : goal.returns-in-Parameters
returns-in-Parameters = search rules
