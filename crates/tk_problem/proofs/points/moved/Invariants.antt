use Rattle.std.proofs.Common.{◌≡◌, map, take}
use Rattle.tk_problem.specs.Units.{place_in}
use Rattle.tk_problem.proofs.points.moved.Given as goal

abbrev pub invariant-loop-place : goal.invariant-loop-place
invariant-loop-place l = map (place_in l.other) l.moved.items ≡ map (place_in l.unit) (take l.place-index l.places)
