use Rattle.tk_writers.proofs.Pieces.Putting.{Puts-then}
use Rattle.tk_writers.proofs.tour_writer.put_tour.Goals as goal

pub returns : goal.returns
returns g c = Puts-then (Puts-then c.put_tour_head.ensures c.put_cities.ensures)
    c.put.ensures
