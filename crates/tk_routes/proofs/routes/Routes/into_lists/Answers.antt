use Rattle.std.proofs.Common.{refl}
use Rattle.tk_routes.proofs.routes.Routes.into_lists.Goals as goal

pub returns : goal.returns
returns c = refl
