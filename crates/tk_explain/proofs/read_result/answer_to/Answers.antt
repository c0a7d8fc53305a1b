use Rattle.std.proofs.Common.{rules}
use Rattle.tk_explain.proofs.read_result.answer_to.Goals as goal

pub returns-in-Tour : goal.returns-in-Tour
returns-in-Tour = search rules
