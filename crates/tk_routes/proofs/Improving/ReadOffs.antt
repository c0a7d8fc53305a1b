-- Routes read off from a cycle of positions.
use Rattle.std.proofs.Common.{◌≡◌, ◌≢◌, ℕ, suc, ◌+◌, ◌-◌, ◌<◌, ◌≤◌, ⊎_elim, List, [], ◌∷◌, ◌++◌, length, take, drop}
use Rattle.std.proofs.Common.{get_or, refl, sym, ap, ◌∙◌, subst, arith, inl, inr, append_assoc}
use Rattle.std.specs.Prelude.{map, reverse}
use Rattle.std.specs.List.Sorted.{IsPermutation}
use Rattle.std.proofs.lemmas.Bool.{cases_eq}
use Rattle.std.proofs.lemmas.Bool.Decides.{nat_tests}
use Rattle.std.proofs.lemmas.List.{get_or-map, length-map, length-reverse, get_or-reverse, map-append, reverse-append}
use Rattle.std.proofs.lemmas.List.{reverse-reverse, take_all}
use Rattle.tk_distance.specs.Cities.{city_at}
use Rattle.tk_tour.specs.Tour.{IsTour, IsRotation, SameCycle, tour_length}
use Rattle.tk_tour.proofs.Cycle.{IsRotation-refl}
use Rattle.tk_tour.proofs.DistinctCycles.{occurrences-append}
use Rattle.tk_tour.proofs.Tours.{occurrences-same, occurrences-outside, inside_or_not}
use Rattle.tk_descent.specs.Awake.{one_to}
use Rattle.tk_descent.proofs.MovesOnTours.Length.{length-cycle}
use Rattle.tk_descent.proofs.MovesOnTours.Steps.{cities-cycle}
use Rattle.tk_routes.specs.Instance.{Instance, node_of, customer_of}
use Rattle.tk_routes.specs.Routes.{route_nodes, route_length}
use Rattle.tk_routes.specs.ImprovedRoutes.{IsReadOff, IsTurned, customer_at, place_distance}
use Rattle.tk_routes.proofs.CutLists.{cut_at}
use Rattle.tk_routes.proofs.Improving.Nodes.{IsTour-customers}
use Rattle.tk_routes.proofs.Improving.Renumbered.{IsPermutation-places, map-city_at, tour_length-map}

pub IsTour-cycle : (n : ℕ) (xs ys : List ℕ) → IsTour n xs → SameCycle xs ys → IsTour n ys
IsTour-cycle n xs ys tour same =
    let s = cities-cycle xs ys same in
    (s.0 ∙ tour.0, λ c low high. s.1 c ∙ tour.1 c low high)

-- the positions after the depot's are those of customers
inside : (n p : ℕ) (front back : List ℕ) → IsTour n (1 ∷ (front ++ p ∷ back)) → (2 ≤ p) × (p ≤ n)
inside n p front back tour =
    let once = occurrences-append p front (p ∷ back) in
    let here = occurrences-same p p back refl in
    ⊎_elim
    (λ (k : (0 < p) × (p ≤ n)).
    ⊎_elim
    (λ (e : p ≡ 1). absurd (omega (arith, tour.1 p k.0 k.1, occurrences-same p 1 (front ++ p ∷ back) e, once, here)))
    (λ (ne : p ≢ 1). (omega (arith, k.0, ne), k.1))
    (cases_eq p 1))
    (λ (out : 0 < p → n < p). absurd
    (omega (
      arith,
      occurrences-outside n p (1 ∷ (front ++ p ∷ back)) tour out,
      occurrences-append p (1 ∷ []) (front ++ p ∷ back),
      once,
      here,
    )))
    (inside_or_not n p)

one_more : (n p : ℕ) (front back : List ℕ) → IsTour n (1 ∷ (front ++ p ∷ back)) →
    IsTour n (1 ∷ ((front ++ p ∷ []) ++ back))
one_more n p front back tour = subst (λ (v : List ℕ). IsTour n (1 ∷ v)) (sym (append_assoc front (p ∷ []) back)) tour

-- the customers at the positions of a cycle
as_customers : (n : ℕ) (route front ps : List ℕ) → IsTour n (1 ∷ (front ++ ps)) →
    map (customer_at route) ps ≡ map (city_at route) (map (customer_of 1) ps)
as_customers n route front [] tour = refl
as_customers n route front (p ∷ ps) tour =
    let low : 2 ≤ p = (inside n p front ps tour).0 in
    let at : p - 2 ≡ customer_of 1 p - 1 = grind (arith, nat_tests, low) in
    ap (λ v. get_or route v 0 ∷ map (customer_at route) ps) at
    ∙ ap (λ v. city_at route (customer_of 1 p) ∷ v)
    (as_customers n route (front ++ p ∷ []) ps (one_more n p front ps tour))

nodes_at : (i : Instance) (route front ps : List ℕ) → IsTour (length route + 1) (1 ∷ (front ++ ps)) →
    map (node_of i.depot) (map (customer_at route) ps) ≡ map (city_at (route_nodes i route)) ps
nodes_at i route front [] tour = refl
nodes_at i route front (p ∷ ps) tour =
    let k = inside (length route + 1) p front ps tour in
    let next : p - 1 ≡ suc (p - 2) = omega (arith, k.0) in
    let at : node_of i.depot (get_or route (p - 2) 0) ≡ get_or (route_nodes i route) (p - 1) 0 =
    sym (ap (λ v. get_or (route_nodes i route) v 0) next
    ∙ get_or-map (node_of i.depot) route (p - 2) 0 0 (omega (arith, k.0, k.1))) in
    ap (λ v. v ∷ map (node_of i.depot) (map (customer_at route) ps)) at
    ∙ ap (λ v. city_at (route_nodes i route) p ∷ v)
    (nodes_at i route (front ++ p ∷ []) ps (one_more (length route + 1) p front ps tour))

-- the nodes of a route that is read off
nodes_read : (i : Instance) (route cycle new : List ℕ) (r : IsReadOff route cycle new) →
    IsTour (length route + 1) cycle →
    route_nodes i new ≡ map (city_at (route_nodes i route)) (1 ∷ r.places)
nodes_read i route cycle new r tour =
    ap (λ v. i.depot ∷ map (node_of i.depot) v) r.read
    ∙ ap (λ v. i.depot ∷ v)
    (nodes_at i route [] r.places (IsTour-cycle (length route + 1) cycle (1 ∷ r.places) tour r.same))

-- the new route has the customers of the old one
pub IsPermutation-read : (route cycle new : List ℕ) → IsReadOff route cycle new → IsTour (length route + 1) cycle →
    IsPermutation route new
IsPermutation-read route cycle new r tour =
    let whole = IsTour-cycle (length route + 1) cycle (1 ∷ r.places) tour r.same in
    let behind = (IsTour-customers (length route + 1) 1 r.places (omega arith, omega arith) whole).0 in
    let size : length route + 1 - 1 ≡ length route = omega arith in
    let places : IsTour (length route) (map (customer_of 1) r.places) =
    subst (λ (v : ℕ). IsTour v (map (customer_of 1) r.places)) size behind in
    subst (λ (v : List ℕ). IsPermutation route v)
    (sym (r.read ∙ as_customers (length route + 1) route [] r.places whole))
    (IsPermutation-places route (map (customer_of 1) r.places) places)

-- the length of the new route is that of the cycle
pub route_length-read : (i : Instance) (route cycle new : List ℕ) → ((a b : ℕ) → i.distance a b ≡ i.distance b a) →
    IsReadOff route cycle new → IsTour (length route + 1) cycle →
    route_length i new ≡ tour_length (place_distance i.distance (route_nodes i route)) cycle
route_length-read i route cycle new symmetric r tour =
    let nodes : List ℕ = route_nodes i route in
    ap (tour_length i.distance) (nodes_read i route cycle new r tour)
    ∙ tour_length-map i.distance (city_at nodes) (1 ∷ r.places)
    ∙ sym (length-cycle (place_distance i.distance nodes) (λ a b. symmetric (city_at nodes a) (city_at nodes b)) cycle
    (1 ∷ r.places) r.same)

pub length-route_nodes : (i : Instance) (route : List ℕ) → length (route_nodes i route) ≡ length route + 1
length-route_nodes i route = omega (arith, length-map route (node_of i.depot))

-- the length of a route, over its positions
pub route_length-places : (i : Instance) (route : List ℕ) →
    route_length i route ≡ tour_length (place_distance i.distance (route_nodes i route)) (one_to (length route + 1))
route_length-places i route =
    let nodes : List ℕ = route_nodes i route in
    ap (tour_length i.distance) (sym (map-city_at nodes (length route + 1) (length-route_nodes i route)))
    ∙ tour_length-map i.distance (city_at nodes) (one_to (length route + 1))

-- a cycle that begins with the position of the depot
pub behind_first : (cycle : List ℕ) → 1 ≤ length cycle → get_or cycle 0 0 ≡ 1 →
    cycle ≡ 1 ∷ take (length cycle - 1) (drop 1 cycle)
behind_first [] some e = absurd (omega arith)
behind_first (x ∷ xs) some e = ap (λ v. v ∷ xs) e
    ∙ ap (λ v. 1 ∷ v) (sym (take_all (length (x ∷ xs) - 1) xs (omega arith)))

-- each later position is that of a customer
pub place_inside : (n : ℕ) (cycle : List ℕ) (k : ℕ) → IsTour n cycle → 1 ≤ n → get_or cycle 0 0 ≡ 1 →
    k < length (take (length cycle - 1) (drop 1 cycle)) →
    (2 ≤ get_or (take (length cycle - 1) (drop 1 cycle)) k 0)
    × (get_or (take (length cycle - 1) (drop 1 cycle)) k 0 ≤ n)
place_inside n cycle k tour some e lt =
    let ps = take (length cycle - 1) (drop 1 cycle) in
    inside n (get_or ps k 0) (take k ps) (drop (k + 1) ps)
    (subst (λ (v : List ℕ). IsTour n v)
    (behind_first cycle (omega (arith, tour.0)) e ∙ ap (λ v. 1 ∷ v) (cut_at ps k 0 lt)) tour)

pub IsReadOff-ahead : (route cycle places xs : List ℕ) → cycle ≡ 1 ∷ places → xs ≡ map (customer_at route) places →
    IsTurned xs → IsReadOff route cycle xs
IsReadOff-ahead route cycle places xs begins read turned = record {
  places = places;
  same = subst (λ (v : List ℕ). SameCycle v (1 ∷ places)) (sym begins) (inl (IsRotation-refl (1 ∷ places)));
  read = read;
  turned = turned;
}

map-reverse : (f : ℕ → ℕ) (xs : List ℕ) → map f (reverse xs) ≡ reverse (map f xs)
map-reverse f [] = refl
map-reverse f (x ∷ xs) =
    ap (map f) (reverse-append (x ∷ []) xs) ∙ map-append f (reverse xs) (x ∷ [])
    ∙ ap (λ v. v ++ f x ∷ []) (map-reverse f xs) ∙ sym (reverse-append (f x ∷ []) (map f xs))

pub IsReadOff-back : (route cycle places xs new : List ℕ) → cycle ≡ 1 ∷ places → xs ≡ map (customer_at route) places →
    new ≡ reverse xs → 1 ≤ length xs →
    get_or xs (length xs - 1) 0 ≤ get_or xs 0 0 → IsReadOff route cycle new
IsReadOff-back route cycle places xs new begins read is some le =
    let back : IsRotation (1 ∷ places) (reverse (1 ∷ reverse places)) = record {
      front = 1 ∷ [];
      back = places;
      before = refl;
      after = reverse-append (1 ∷ []) (reverse places) ∙ ap (λ v. v ++ 1 ∷ []) (reverse-reverse places);
    } in
    let size : length new ≡ length xs = ap length is ∙ length-reverse xs in
    let begin : length xs - 1 - 0 ≡ length xs - 1 = omega arith in
    let end : length xs - 1 - (length new - 1) ≡ 0 = omega (arith, size) in
    let first : get_or new 0 0 ≡ get_or xs (length xs - 1) 0 = ap (λ v. get_or v 0 0) is
    ∙ get_or-reverse xs 0 0 (omega arith) ∙ ap (λ v. get_or xs v 0) begin in
    let last : get_or new (length new - 1) 0 ≡ get_or xs 0 0 = ap (λ v. get_or v (length new - 1) 0) is
    ∙ get_or-reverse xs (length new - 1) 0 (omega arith) ∙ ap (λ v. get_or xs v 0) end in
    record {
      places = reverse places;
      same = subst (λ (v : List ℕ). SameCycle v (1 ∷ reverse places)) (sym begins) (inr back);
      read = is ∙ ap reverse read ∙ sym (map-reverse (customer_at route) places);
      turned = omega (arith, first, last, le);
    }
