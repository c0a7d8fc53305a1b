-- The points of a list, as they are stored.
use Rattle.std.specs.Prelude.{List, map}
use Rattle.tk_problem.specs.declared.point.Point.{Point}
use Rattle.tk_problem.specs.declared.points.Places.{Places}
use Rattle.tk_problem.specs.declared.points.Places.TheVariants.{Whole, Fine}
use Rattle.tk_problem.specs.Units.{place_in}

abbrev pub places_of : Places → List Point
places_of (Whole unit places) = map (place_in unit) places.now
places_of (Fine places) = places.now
