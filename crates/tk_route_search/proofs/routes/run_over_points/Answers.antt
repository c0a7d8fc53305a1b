use Rattle.std.proofs.Common.{◌≡◌, ◌-◌, ◌∙◌, ℕ, List, ap, length}
use Rattle.tk_problem.specs.PlacesOf.{places_of}
use Rattle.tk_problem.specs.declared.points.Places.TheVariants.{Whole}
use Rattle.tk_problem.specs.declared.weights.PlaneKind.TheVariants.{Euc2d}
use Rattle.tk_distance.specs.Cities.{city_at}
use Rattle.tk_distance.specs.PlaneOf.{city_distance}
use Rattle.tk_distance.specs.declared.euclid.Euclid.{Euclid}
use Rattle.tk_routes.specs.Cvrps.{instance_of}
use Rattle.tk_rings.specs.RingRoutes.{ring_nodes}
use Rattle.tk_route_search.specs.Tasks.{copies_in}
use Rattle.tk_route_search.proofs.routes.run_over_points.Goals as goal

pub run_ring_in_plane-requires-clause-distance : goal.run_ring_in_plane-requires-clause-distance
run_ring_in_plane-requires-clause-distance g c =
    let i = instance_of c.args.cvrp.now in
    let nodes = ring_nodes i (copies_in i c.args.ring.now) in
    let between : Euclid → List ℕ → ℕ → ℕ → ℕ =
    λ plane cities a b. city_distance Euc2d (places_of (Whole plane.unit plane.places)) (city_at cities a)
    (city_at cities b) in
    let at_nodes : (ℕ → ℕ → ℕ) → ℕ → ℕ → ℕ = λ distance a b. distance (city_at nodes a) (city_at nodes b) in
    let all : c.new-metric.result.cities.now ≡ nodes = c.new-metric.ensures.cities ∙ c.deref-2.ensures.value
    ∙ c.in_ok-nodes.ensures.nodes
    ∙ ap (λ k. ring_nodes i (length c.args.ring.now - k)) c.customers.ensures.value in
    ap (λ plane. between plane c.new-metric.result.cities.now) c.new-metric.ensures.plane
    ∙ ap (between c.args.plane) all
    ∙ ap at_nodes c.requires.distance
