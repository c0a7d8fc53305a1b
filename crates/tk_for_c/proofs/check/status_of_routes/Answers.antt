use Rattle.std.proofs.Common.{rules}
use Rattle.tk_for_c.proofs.check.status_of_routes.Goals as goal

pub returns-in-Valid : goal.returns-in-Valid
returns-in-Valid = search rules
