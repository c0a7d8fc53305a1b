use Rattle.std.proofs.Common.{rules}
use Rattle.tk_routes.proofs.routes.Routes.lists.Goals as goal

pub returns : goal.returns
returns c = search rules
