use Rattle.std.proofs.Common.{◌≡◌, take}
use Rattle.tk_distance.specs.Holding.{holds}
use Rattle.tk_starts.proofs.merges.pairs.is_near.Given as goal

abbrev pub invariant-loop-city : goal.invariant-loop-city
invariant-loop-city l = l.found ≡ holds (take l.city-index l.city-items) l.d
