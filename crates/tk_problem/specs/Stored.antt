-- The points that a list stores.
use Rattle.std.specs.Prelude.{List, All, map}
use Rattle.tk_problem.specs.declared.point.Point.{Point}
use Rattle.tk_problem.specs.declared.points.Stored.{Stored}
use Rattle.tk_problem.specs.declared.points.Stored.TheVariants.{Whole, Fine}
use Rattle.tk_problem.specs.Places.{IsNearOrigin}
use Rattle.tk_problem.specs.Units.{place_in}

abbrev pub stored_places : Stored → List Point
stored_places (Whole unit places) = map (place_in unit) places.items
stored_places (Fine places) = places.items

abbrev pub IsStoredNear : Stored → Type 0
IsStoredNear s = All IsNearOrigin (stored_places s)
