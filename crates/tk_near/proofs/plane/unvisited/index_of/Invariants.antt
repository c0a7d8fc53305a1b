use Rattle.std.proofs.Common.{◌≢◌, ℕ, ◌<◌}
use Rattle.tk_near.specs.CityPoint.{placed_city}
use Rattle.tk_near.proofs.plane.unvisited.index_of.Given as goal

abbrev pub invariant-loop-i : goal.invariant-loop-i
invariant-loop-i l = (k : ℕ) → k < l.i → placed_city l.row k ≢ l.p.city
