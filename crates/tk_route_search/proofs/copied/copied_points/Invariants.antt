use Rattle.std.proofs.Common.{◌≡◌, map, take}
use Rattle.tk_problem.specs.PlacesOf.{places_of}
use Rattle.tk_problem.specs.Units.{place_in}
use Rattle.tk_problem.specs.declared.points.Places.TheVariants.{Whole}
use Rattle.tk_distance.specs.PlaneOf.{city_place}
use Rattle.tk_route_search.proofs.copied.copied_points.Given as goal

abbrev pub invariant-loop-city : goal.invariant-loop-city
invariant-loop-city l = map (place_in l.plane.unit) l.points.items
    ≡ map (city_place (places_of (Whole l.plane.unit l.plane.places))) (take l.city-index l.cities)
