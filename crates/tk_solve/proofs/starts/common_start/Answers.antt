use Rattle.std.proofs.Common.{refl}
use Rattle.tk_solve.proofs.starts.common_start.Goals as goal

pub returns-in-Tour : goal.returns-in-Tour
returns-in-Tour c = rw c.in-Tour.is refl
