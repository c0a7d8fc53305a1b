use Rattle.tk_writers.proofs.Pieces.Putting.{Puts-then}
use Rattle.tk_picture.proofs.caption.put_caption.Goals as goal

pub returns : goal.returns
returns g c = Puts-then c.put_subject.ensures c.put_origin.ensures
