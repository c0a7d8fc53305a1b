use Rattle.std.proofs.Common.{rules}
use Rattle.tk_picture.proofs.extent.Extent.down.Goals as goal

pub returns : goal.returns
returns = search rules
