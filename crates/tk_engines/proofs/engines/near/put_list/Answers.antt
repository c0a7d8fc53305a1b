use Rattle.tk_writers.proofs.Pieces.Putting.{Puts-then}
use Rattle.tk_engines.proofs.engines.near.put_list.Goals as goal

pub returns : goal.returns
returns g c =
    Puts-then (Puts-then (Puts-then c.put_number.ensures c.put.ensures)
    (rw c.of.ensures.value at c.put_spaced.ensures)) c.put-2.ensures
