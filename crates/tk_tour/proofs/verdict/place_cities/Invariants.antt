use Rattle.tk_tour.proofs.FirstPositions.{Placing}
use Rattle.tk_tour.proofs.verdict.place_cities.Given as goal

abbrev pub invariant-loop-k : goal.invariant-loop-k
invariant-loop-k l = Placing l.cities l.place l.k
