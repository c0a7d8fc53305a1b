use Rattle.std.proofs.Common.{refl, sym}
use Rattle.tk_route_tests.proofs.TourElements.{All-tour}
use Rattle.tk_route_tests.proofs.descents.length_of.Goals as goal

pub length-requires-clause-cities : goal.length-requires-clause-cities
length-requires-clause-cities g c = All-tour _ _ _ _ c.requires.ring (sym c.requires.size) refl
