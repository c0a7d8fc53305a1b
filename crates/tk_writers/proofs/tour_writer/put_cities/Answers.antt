use Rattle.std.specs.Prelude.{decimal}
use Rattle.tk_writers.specs.Written.{line}
use Rattle.tk_writers.proofs.Pieces.PutEach.{flat_map_take}
use Rattle.tk_writers.proofs.Pieces.Putting.{Puts-then}
use Rattle.tk_writers.proofs.tour_writer.put_cities.Goals as goal

pub loop-city-preserved : goal.loop-city-preserved
loop-city-preserved g c =
    rw (flat_map_take (λ x. line (decimal x)) c.args.cities.now c.loop-city.city-index c.loop-city-test.true)
    (Puts-then c.loop-city.invariant (Puts-then c.put_number.ensures c.put.ensures))
