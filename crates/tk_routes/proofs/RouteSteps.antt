-- Routes one after another: their customers, loads and lengths.
use Rattle.std.proofs.Common.{◌≡◌, ℕ, ◌+◌, ◌*◌, ◌<◌, ◌≤◌, List, ◌∷◌, ◌++◌, length, take, drop, get_or, sym, ap, ◌∙◌}
use Rattle.std.proofs.Common.{subst, arith}
use Rattle.std.specs.Prelude.{map}
use Rattle.std.specs.List.{All, concat}
use Rattle.std.proofs.lemmas.List.{get_or-map, take-map, length-map}
use Rattle.std.proofs.lemmas.List.Elements.{All-push}
use Rattle.std.proofs.lemmas.List.Sums.{sum_by_push, sum_by-take-le}
use Rattle.tk_problem.specs.declared.limits.TheConstants.{DISTANCE_LIMIT}
use Rattle.tk_tour.proofs.Lengths.{way_back, way_back-step}
use Rattle.tk_routes.specs.Instance.{Instance, node_of}
use Rattle.tk_routes.specs.Routes.{IsLight, route_load, route_length, routes_cost}
use Rattle.tk_routes.specs.RouteVerdicts.{AreServedOnce, IsFirstOver}
use Rattle.tk_routes.proofs.RouteCosts.{routes_cost-limit}
use Rattle.tk_routes.proofs.CutLists.{cut_map, map-take_more, length-before}
use Rattle.tk_routes.proofs.ServedCustomers.{AreServedOnce-part, AreServedOnce-short}

-- the length of the rest of a route, with the edge to its next customer and the rest after it
pub way_back-customer : (d : ℕ → ℕ → ℕ) (depot from k : ℕ) (route : List ℕ) (node : ℕ) → k < length route →
    node ≡ node_of depot (get_or route k 0) →
    way_back d from depot k (map (node_of depot) route) ≡ d from node + way_back d node depot (k + 1)
    (map (node_of depot) route)
way_back-customer d depot from k route node lt is =
    let e : get_or (map (node_of depot) route) k 0 ≡ node = get_or-map (node_of depot) route k 0 0 lt ∙ sym is in
    let within : k < length (map (node_of depot) route) = omega (arith, length-map route (node_of depot)) in
    subst (λ (v : ℕ). way_back d from depot k (map (node_of depot) route) ≡ d from v + way_back d v depot (k + 1)
    (map (node_of depot) route)) e
    (way_back-step d from depot k (map (node_of depot) route) within)

-- the customers of one of the routes
pub route_served : {X : Type 0} (f : X → List ℕ) (m : ℕ) (xs : List X) (k : ℕ) (x : X) (route : List ℕ) →
    k < length xs → x ≡ get_or xs k x → route ≡ f x →
    AreServedOnce m (concat (map f xs)) → AreServedOnce m route
route_served f m xs k x route lt at is h =
    let parts : AreServedOnce m (concat (map f (take k xs) ++ f x ∷ map f (drop (k + 1) xs))) =
    subst (λ (v : List (List ℕ)). AreServedOnce m (concat v)) (cut_map f xs k x lt at) h in
    subst (λ (v : List ℕ). AreServedOnce m v) (sym is)
    (AreServedOnce-part m (map f (take k xs)) (f x) (map f (drop (k + 1) xs)) parts)

pub routes_cost-bound : {X : Type 0} (f : X → List ℕ) (i : Instance) (m : ℕ) (xs : List X) (k : ℕ) →
    ((a : ℕ) → i.distance a a ≡ 0) → ((a b : ℕ) → i.distance a b ≤ DISTANCE_LIMIT) →
    AreServedOnce m (concat (map f xs)) → routes_cost i (map f (take k xs)) ≤ 8000000000 * m
routes_cost-bound f i m xs k diagonal limit h =
    omega (
      arith,
      ap (routes_cost i) (take-map f k xs),
      sum_by-take-le (route_length i) (map f xs) k,
      routes_cost-limit i (map f xs) diagonal limit,
      AreServedOnce-short m (concat (map f xs)) h,
    )

-- one more of the routes: the cost, and whether the loads are within the capacity
module _ {X : Type 0} (f : X → List ℕ) (i : Instance) (xs : List X) (k : ℕ) (x : X) (route : List ℕ)
    (lt : k < length xs) (at : x ≡ get_or xs k x) (is : route ≡ f x) where
  pub routes_cost-more :
      routes_cost i (map f (take (k + 1) xs)) ≡ routes_cost i (map f (take k xs)) + route_length i route
  routes_cost-more =
      ap (routes_cost i) (map-take_more f xs k x lt at) ∙ sum_by_push (route_length i) (map f (take k xs)) (f x)
      ∙ ap (λ v. routes_cost i (map f (take k xs)) + route_length i v) (sym is)

  pub light_more : All (IsLight i) (map f (take k xs)) → route_load i route ≤ i.capacity →
      All (IsLight i) (map f (take (k + 1) xs))
  light_more light one =
      subst (λ (v : List (List ℕ)). All (IsLight i) v) (sym (map-take_more f xs k x lt at))
      (All-push (IsLight i) (map f (take k xs)) (f x) light (subst (λ (v : List ℕ). IsLight i v) is one))

  pub first_over_at : (load : ℕ) → All (IsLight i) (map f (take k xs)) → load ≡ route_load i route →
      i.capacity < load → IsFirstOver i (map f xs) (k + 1) load
  first_over_at load light load_is over = record {
    before = map f (take k xs);
    route = f x;
    after = map f (drop (k + 1) xs);
    text = cut_map f xs k x lt at;
    number = length-before f xs k lt;
    light = light;
    load_is = load_is ∙ ap (route_load i) is;
    over = over;
  }
