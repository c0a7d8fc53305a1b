-- The ring of routes: a tour that fits, of the cost of the routes.
use Rattle.std.proofs.Common.{◌≡◌, ◌≢◌, ℕ, ◌+◌, ◌-◌, ◌<◌, ◌≤◌, ⊎_elim, true, false, cond, ◌&&◌, List, [], ◌∷◌}
use Rattle.std.proofs.Common.{◌++◌, length, refl, sym, ap, ◌∙◌, subst, arith, append_assoc}
use Rattle.std.proofs.Common.{length-append}
use Rattle.std.specs.Prelude.{map}
use Rattle.std.specs.List.{All, concat, sum_by}
use Rattle.std.proofs.lemmas.Bool.{cases_eq, le-leb, lt-ltb, le-ltb}
use Rattle.std.proofs.lemmas.List.{get_or-map, length-map, map-append}
use Rattle.std.proofs.lemmas.List.Elements.{All-cons, All-head, All-nil, All-tail, All-weaker}
use Rattle.std.proofs.lemmas.List.Sums.{sum_by-cons}
use Rattle.tk_distance.specs.Cities.{IsCity, city_at}
use Rattle.tk_tour.specs.Tour.{IsTour, occurrences, walk, tour_length}
use Rattle.tk_tour.proofs.DistinctCycles.{occurrences-append}
use Rattle.tk_tour.proofs.Tours.{occurrences-same, occurrences-other, occurrences-outside}
use Rattle.tk_descent.specs.Awake.{one_to}
use Rattle.tk_descent.proofs.WakeExecutions.WokenQueue.{one_to-length}
use Rattle.tk_routes.specs.Instance.{Instance, customer_count, demand_of, node_of}
use Rattle.tk_routes.specs.Routes.{AreRoutes, IsLight, route_load, route_length, routes_cost}
use Rattle.tk_routes.proofs.CutLists.{All-front, All-back}
use Rattle.tk_routes.proofs.Improving.Exchanged.{AreServedOnce-routes}
use Rattle.tk_routes.proofs.Improving.Renumbered.{tour_length-map}
use Rattle.tk_rings.specs.Capacities.{demand_in, is_copy, loads_of, IsFitting}
use Rattle.tk_rings.specs.Rings.{copy, whole, join, is_closed}
use Rattle.tk_rings.specs.RingRoutes.{ring_from, ring_of, demands_of, ring_nodes, ring_distance}
use Rattle.tk_rings.specs.StretchLaws.{st-append, st-plain}
use Rattle.tk_rings.proofs.MeetingRoutes.{from_test}
use Rattle.tk_rings.proofs.RingNodes.{one_to-at, node-copy, nodes-customers, walk-through}

-- one more route at the end
pub ring_from-push : (c : ℕ) (routes : List (List ℕ)) (route : List ℕ) →
    ring_from c (routes ++ route ∷ []) ≡ ring_from c routes ++ (route ++ (c + length routes + 1) ∷ [])
ring_from-push c [] route =
    ap (λ v. c ∷ (route ++ v ∷ [])) (let e : c + 1 ≡ c + 0 + 1 = omega arith in e)
ring_from-push c (first ∷ routes) route =
    ap (λ v. c ∷ (first ++ v)) (ring_from-push (c + 1) routes route)
    ∙ ap (λ v. c ∷ (first ++ (ring_from (c + 1) routes ++ (route ++ v ∷ []))))
    (let e : c + 1 + length routes + 1 ≡ c + length (first ∷ routes) + 1 = omega arith in e)
    ∙ ap (λ v. c ∷ v) (sym (append_assoc first (ring_from (c + 1) routes)
    (route ++ (c + length (first ∷ routes) + 1) ∷ [])))

pub length-ring_from : (c : ℕ) (routes : List (List ℕ)) →
    length (ring_from c routes) ≡ length (concat routes) + (length routes + 1)
length-ring_from c [] = omega arith
length-ring_from c (route ∷ routes) =
    omega (
      arith,
      length-append route (ring_from (c + 1) routes),
      length-append route (concat routes),
      length-ring_from (c + 1) routes,
    )

below : (x c : ℕ) (routes : List (List ℕ)) → x < c →
    occurrences x (ring_from c routes) ≡ occurrences x (concat routes)
below x c [] lt = occurrences-other x c [] (λ e. absurd (omega (arith, e, lt)))
below x c (route ∷ routes) lt =
    omega (
      arith,
      occurrences-other x c (route ++ ring_from (c + 1) routes) (λ e. absurd (omega (arith, e, lt))),
      occurrences-append x route (ring_from (c + 1) routes),
      occurrences-append x route (concat routes),
      below x (c + 1) routes (omega arith),
    )

among : (x c : ℕ) (routes : List (List ℕ)) → c ≤ x → x ≤ c + length routes →
    occurrences x (ring_from c routes) ≡ 1 + occurrences x (concat routes)
among x c [] low high = occurrences-same x c [] (omega arith)
among x c (route ∷ routes) low high =
    ⊎_elim
    (λ (e : x ≡ c).
    omega (
      arith,
      occurrences-same x c (route ++ ring_from (c + 1) routes) e,
      occurrences-append x route (ring_from (c + 1) routes),
      occurrences-append x route (concat routes),
      below x (c + 1) routes (omega arith),
    ))
    (λ (ne : x ≢ c).
    omega (
      arith,
      occurrences-other x c (route ++ ring_from (c + 1) routes) ne,
      occurrences-append x route (ring_from (c + 1) routes),
      occurrences-append x route (concat routes),
      among x (c + 1) routes (omega (arith, low, ne)) (omega (arith, high)),
    ))
    (cases_eq x c)

pub IsTour-ring : (k : ℕ) (routes : List (List ℕ)) → IsTour k (concat routes) →
    IsTour (k + (length routes + 1)) (ring_from (k + 1) routes)
IsTour-ring k routes tour = (
  omega (arith, length-ring_from (k + 1) routes, tour.0),
  λ x low high.
      from_test x k
      (λ le. below x (k + 1) routes (omega arith) ∙ tour.1 x low le)
      (λ lt. omega (
        arith,
        among x (k + 1) routes (omega arith) (omega arith),
        occurrences-outside k x (concat routes) tour (λ z. lt),
      )),
)

-- the loads of the ring are those of a copy, if each route is light
pub ring_loads : (q : ℕ) (demands : List ℕ) (c : ℕ) (routes : List (List ℕ)) → length demands < c →
    All (IsCity (length demands)) (concat routes) →
    All (λ (route : List ℕ). sum_by (demand_in demands) route ≤ q) routes →
    loads_of q demands (ring_from c routes) ≡ copy
ring_loads q demands c [] lt known light =
    ap (λ b. join q (cond b copy (whole (demand_in demands c))) (whole 0)) (lt-ltb (length demands) c lt)
ring_loads q demands c (route ∷ routes) lt known light =
    let plain = All-weaker (IsCity (length demands)) (λ x. is_copy demands x ≡ false)
    (λ x city. le-ltb (length demands) x city.1) route
    (All-front (IsCity (length demands)) route (concat routes) known) in
    let rest = ring_loads q demands (c + 1) routes (omega arith)
    (All-back (IsCity (length demands)) route (concat routes) known)
    (All-tail (λ (r : List ℕ). sum_by (demand_in demands) r ≤ q) route routes light) in
    let load = All-head (λ (r : List ℕ). sum_by (demand_in demands) r ≤ q) route routes light in
    ap (λ b. join q (cond b copy (whole (demand_in demands c)))
    (loads_of q demands (route ++ ring_from (c + 1) routes))) (lt-ltb (length demands) c lt)
    ∙ ap (join q copy) (st-append q (demand_in demands) (is_copy demands) route (ring_from (c + 1) routes)
    ∙ ap (λ z. join q z (loads_of q demands (ring_from (c + 1) routes)))
    (st-plain q (demand_in demands) (is_copy demands) route plain)
    ∙ ap (join q (whole (sum_by (demand_in demands) route))) rest)
    ∙ ap (λ b. record { parted = true; head = 0; tail = 0; fits = b && true })
    (le-leb (0 + (sum_by (demand_in demands) route + 0)) q (omega (arith, load)))

-- the demand of a customer in the list of demands
pub demand_at : (i : Instance) (c : ℕ) → IsCity (customer_count i) c → demand_in (demands_of i) c ≡ demand_of i c
demand_at i c city =
    let n : ℕ = customer_count i in
    get_or-map (demand_of i) (one_to n) (c - 1) 0 0 (omega (arith, city.0, city.1, one_to-length n))
    ∙ ap (demand_of i) (one_to-at n (c - 1) 0 (omega (arith, city.0, city.1)) ∙ omega (arith, city.0))

pub length-demands : (i : Instance) → length (demands_of i) ≡ customer_count i
length-demands i = length-map (one_to (customer_count i)) (demand_of i) ∙ one_to-length (customer_count i)

pub load_same : (i : Instance) (route : List ℕ) → All (IsCity (customer_count i)) route →
    sum_by (demand_in (demands_of i)) route ≡ route_load i route
load_same i [] known = refl
load_same i (c ∷ cs) known =
    omega (
      arith,
      sum_by-cons (demand_in (demands_of i)) c cs,
      sum_by-cons (demand_of i) c cs,
      demand_at i c (All-head (IsCity (customer_count i)) c cs known),
      load_same i cs (All-tail (IsCity (customer_count i)) c cs known),
    )

light_loads : (i : Instance) (routes : List (List ℕ)) → All (IsCity (customer_count i)) (concat routes) →
    All (IsLight i) routes → All (λ (route : List ℕ). sum_by (demand_in (demands_of i)) route ≤ i.capacity) routes
light_loads i [] known light = All-nil (λ (route : List ℕ). sum_by (demand_in (demands_of i)) route ≤ i.capacity)
light_loads i (route ∷ routes) known light =
    All-cons (λ (r : List ℕ). sum_by (demand_in (demands_of i)) r ≤ i.capacity) route routes
    (omega (
      arith,
      load_same i route (All-front (IsCity (customer_count i)) route (concat routes) known),
      All-head (IsLight i) route routes light,
    ))
    (light_loads i routes (All-back (IsCity (customer_count i)) route (concat routes) known)
    (All-tail (IsLight i) route routes light))

-- valid routes have a ring that fits
pub IsFitting-ring : (i : Instance) (routes : List (List ℕ)) → 1 ≤ customer_count i → AreRoutes i routes →
    IsFitting i.capacity (demands_of i) (ring_of i routes)
IsFitting-ring i routes some h =
    let n : ℕ = customer_count i in
    let known = (AreServedOnce-routes i routes h).known in
    let size = length-demands i in
    let loads = ring_loads i.capacity (demands_of i) (n + 1) routes (omega (arith, size))
    (subst (λ (m : ℕ). All (IsCity m) (concat routes)) (sym size) known) (light_loads i routes known h.light) in (
      omega (arith, length-ring_from (n + 1) routes, h.once.0, some, some_route routes (omega (arith, h.once.0, some))),
      ap (is_closed i.capacity) loads ∙ le-leb (0 + 0) i.capacity (omega arith),
    )
  where
    some_route : (rs : List (List ℕ)) → 1 ≤ length (concat rs) → 1 ≤ length rs
    some_route [] le = absurd (omega (arith, le))
    some_route (r ∷ rs) le = omega arith

-- the ring without its first element
after_copy : ℕ → List (List ℕ) → List ℕ
after_copy c [] = []
after_copy c (route ∷ routes) = route ++ (c + 1) ∷ after_copy (c + 1) routes

starts : (c : ℕ) (routes : List (List ℕ)) → ring_from c routes ≡ c ∷ after_copy c routes
unfolding after_copy
starts c [] = refl
starts c (route ∷ routes) = ap (λ v. c ∷ (route ++ v)) (starts (c + 1) routes)

module _ (i : Instance) (copies : ℕ) (diagonal : (a : ℕ) → i.distance a a ≡ 0) where
  abbrev node : ℕ → ℕ
  node c = city_at (ring_nodes i copies) c

  way_cost : (c : ℕ) (routes : List (List ℕ)) → customer_count i < c →
      c + length routes ≤ customer_count i + copies → All (IsCity (customer_count i)) (concat routes) →
      walk i.distance i.depot (map node (after_copy c routes) ++ i.depot ∷ []) ≡ routes_cost i routes
  unfolding after_copy
  way_cost c [] low high known = omega (arith, diagonal i.depot)
  way_cost c (route ∷ routes) low high known =
      let front = All-front (IsCity (customer_count i)) route (concat routes) known in
      let back = All-back (IsCity (customer_count i)) route (concat routes) known in
      let rest = map node (after_copy (c + 1) routes) ++ i.depot ∷ [] in
      let cut : map node (route ++ (c + 1) ∷ after_copy (c + 1) routes) ++ i.depot ∷ []
      ≡ map (node_of i.depot) route ++ i.depot ∷ rest =
      ap (λ v. v ++ i.depot ∷ []) (map-append node route ((c + 1) ∷ after_copy (c + 1) routes))
      ∙ append_assoc (map node route) (node (c + 1) ∷ map node (after_copy (c + 1) routes)) (i.depot ∷ [])
      ∙ ap (λ v. v ++ node (c + 1) ∷ rest) (nodes-customers i copies route front)
      ∙ ap (λ v. map (node_of i.depot) route ++ v ∷ rest)
      (node-copy i copies (c + 1) (omega arith) (omega arith)) in
      omega (
        arith,
        ap (walk i.distance i.depot) cut,
        walk-through i.distance i.depot (map (node_of i.depot) route) i.depot rest,
        way_cost (c + 1) routes (omega arith) (omega arith) back,
        sum_by-cons (route_length i) route routes,
      )

  -- the ring has the length of the routes
  pub ring_cost : (routes : List (List ℕ)) → copies ≡ length routes + 1 → AreRoutes i routes →
      tour_length (ring_distance i copies) (ring_of i routes) ≡ routes_cost i routes
  ring_cost routes size h =
      let c : ℕ = customer_count i + 1 in
      sym (tour_length-map i.distance node (ring_of i routes))
      ∙ ap (λ v. tour_length i.distance (map node v)) (starts c routes)
      ∙ ap (λ v. walk i.distance v (map node (after_copy c routes) ++ v ∷ []))
      (node-copy i copies c (omega arith) (omega (arith, size)))
      ∙ way_cost c routes (omega arith) (omega (arith, size)) (AreServedOnce-routes i routes h).known
