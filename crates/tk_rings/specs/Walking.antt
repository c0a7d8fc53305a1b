-- Walks along a ring.
use Rattle.std.specs.Prelude.{ℕ, not}
use Rattle.tk_distance.specs.Cities.{IsCity}
use Rattle.tk_rings.specs.declared.walk.Walk.{Walk}

-- the walk along the same path in the other direction
abbrev pub back : Walk → Walk
back walk = record { from = walk.to; to = walk.from; forward = not walk.forward }

-- it begins and ends at elements of a ring of n
abbrev pub AreEndsIn : ℕ → Walk → Type 0
AreEndsIn n walk = IsCity n walk.from × IsCity n walk.to
