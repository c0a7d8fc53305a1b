use Rattle.std.proofs.Common.{sym, ap, ◌∙◌}
use Rattle.tk_problem.specs.PlacesOf.{places_of}
use Rattle.tk_problem.specs.declared.points.Places.{Places}
use Rattle.tk_problem.specs.declared.weights.PlaneKind.{PlaneKind}
use Rattle.tk_problem.specs.declared.weights.PlaneKind.TheVariants.{Euc2d}
use Rattle.tk_distance.specs.PlaneOf.{city_distance}
use Rattle.tk_route_search.proofs.routes.run_all.Goals as goal

pub run_over_points-requires-clause-distance : goal.run_over_points-requires-clause-distance
run_over_points-requires-clause-distance g c =
    let planes = c.in-Planes.planes in
    let same = c.in-Some.ensures.some in
    sym (ap (λ (kind : PlaneKind). city_distance kind (places_of planes.places)) same.0
    ∙ ap (λ (places : Places). city_distance Euc2d (places_of places)) same.1)
    ∙ c.in-Planes.ensures.distance
