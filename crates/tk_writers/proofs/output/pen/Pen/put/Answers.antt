use Rattle.std.proofs.Common.{refl}
use Rattle.tk_writers.proofs.Pieces.Putting.{Puts-added}
use Rattle.tk_writers.proofs.output.pen.Pen.put.Goals as goal

pub returns-then-bytes-room : goal.returns-then-bytes-room
returns-then-bytes-room g c = Puts-added _ _ _ _ refl refl refl refl c.push.ensures
