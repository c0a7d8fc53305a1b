use Rattle.std.proofs.Common.{rules}
use Rattle.tk_explain.proofs.remark.on_cities.Goals as goal

pub returns-then-contains : goal.returns-then-contains
returns-then-contains = search rules
