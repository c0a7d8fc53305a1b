use Rattle.std.proofs.Common.{refl}
use Rattle.tk_problem.proofs.cell.Cell.lower_index.Goals as goal

pub returns : goal.returns
returns c = rw (c.max-greater.ensures, c.min-lesser.ensures) refl
