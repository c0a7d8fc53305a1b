-- the least and the greatest coordinates of the places before this one
use Rattle.std.proofs.Common.{take}
use Rattle.std.specs.Prelude.{map}
use Rattle.tk_problem.specs.PlacesOf.{places_of}
use Rattle.tk_picture.specs.Extents.{IsLowest, IsHighest}
use Rattle.tk_picture.proofs.extent.Extent.of.Given as goal

abbrev pub invariant-loop-i : goal.invariant-loop-i
invariant-loop-i l = record {
  left : IsLowest l.low.x (map (λ p. p.x) (take l.i (places_of l.places)));
  right : IsHighest l.high.x (map (λ p. p.x) (take l.i (places_of l.places)));
  bottom : IsLowest l.low.y (map (λ p. p.y) (take l.i (places_of l.places)));
  top : IsHighest l.high.y (map (λ p. p.y) (take l.i (places_of l.places)));
}
