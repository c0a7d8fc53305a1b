use Rattle.tk_rings.specs.LoadedRings.{cities_in}
use Rattle.tk_ring_search.specs.Drawing.{Misses}
use Rattle.tk_ring_search.proofs.kicks.drawing.draw_fitting.Given as goal

abbrev pub invariant-loop-draws : goal.invariant-loop-draws
invariant-loop-draws g l =
    Misses l.fn.vehicles.capacity l.fn.vehicles.demands.now (cities_in l.fn.ring)
    (g.R.Rng.stream l.fn.rng) l.draws (g.R.Rng.stream l.rng)
