use Rattle.std.proofs.Common.{◌≡◌, ℕ, ◌+◌, List, ◌∷◌, [], ◌++◌, length, take, arith, sym, ap, ◌∙◌, subst, append_assoc}
use Rattle.std.proofs.Common.{Vec, Global}
use Rattle.std.proofs.lemmas.List.{length-map, length-take-le}
use Rattle.tk_distance.specs.Tables.{table_distance-same}
use Rattle.tk_lists.specs.Solution.{lists_of}
use Rattle.tk_tour.specs.Tour.{IsTour, tour_length}
use Rattle.tk_routes.specs.Cvrps.{instance_of}
use Rattle.tk_routes.specs.Instance.{Instance, customer_count}
use Rattle.tk_routes.proofs.CutLists.{map-take_more, map-take_all}
use Rattle.tk_routes.proofs.Improving.Exchanged.{few_routes}
use Rattle.tk_rings.specs.Capacities.{IsFitting}
use Rattle.tk_rings.specs.RingRoutes.{demands_of, ring_distance, ring_from, ring_size}
use Rattle.tk_rings.proofs.RingsMade.{IsTour-ring, IsFitting-ring, ring_cost, ring_from-push, length-ring_from}
use Rattle.tk_rings.proofs.making.ring_of.Goals as goal

-- the list of lists has as many entries
length-lists : (routes : List (Vec ℕ Global)) → length (lists_of routes) ≡ length routes
length-lists routes = length-map routes (λ r. r.items)

pub overflow_add-copy-in-loop-route : goal.overflow_add-copy-in-loop-route
overflow_add-copy-in-loop-route c =
    let i : Instance = instance_of c.args.cvrp.now in
    let routes : List (List ℕ) = lists_of c.args.routes.now in
    omega (
      arith,
      few_routes routes c.requires.filled,
      c.requires.once.0,
      length-lists c.args.routes.now,
      c.loop-route.invariant.copy,
      c.customers-copy.ensures.value,
      c.customers-copy.ensures.few,
      c.loop-route-test.true,
    )

pub loop-route-preserved : goal.loop-route-preserved
loop-route-preserved c =
    let n : ℕ = customer_count (instance_of c.args.cvrp.now) in
    let at : ℕ = c.loop-route.route-index in
    let route : List ℕ = c.deref.result.now in
    let before : List (List ℕ) = lists_of (take at c.args.routes.now) in
    let size : length before ≡ at = length-lists (take at c.args.routes.now)
    ∙ length-take-le at c.args.routes.now (omega arith) in
    let more : lists_of (take (at + 1) c.args.routes.now) ≡ before ++ route ∷ [] =
    map-take_more (λ (r : Vec ℕ Global). r.items) c.args.routes.now at c.route-item.result c.loop-route-test.true
    c.route-item.is ∙ ap (λ (v : List ℕ). before ++ v ∷ []) (sym c.deref.ensures.value) in
    let next : c.loop-route.copy + 1 ≡ n + 1 + length before + 1 = omega (arith, size, c.loop-route.invariant.copy) in
    record {
      ring = c.in_ok-push-2.ensures.items
          ∙ ap (λ (v : List ℕ). v ++ (c.loop-route.copy + 1) ∷ [])
          (c.in_ok-extend_from_slice.ensures.items
          ∙ ap (λ (v : List ℕ). v ++ route) c.loop-route.invariant.ring)
          ∙ append_assoc (ring_from (n + 1) before) route ((c.loop-route.copy + 1) ∷ [])
          ∙ ap (λ (v : ℕ). ring_from (n + 1) before ++ (route ++ v ∷ [])) next
          ∙ sym (ring_from-push (n + 1) before route)
          ∙ ap (ring_from (n + 1)) (sym more);
      copy = omega (arith, c.loop-route.invariant.copy);
    }

-- the ring at the end
pub returns-clause-ring : goal.returns-clause-ring
returns-clause-ring c =
    c.loop-route.invariant.ring
    ∙ ap (ring_from (customer_count (instance_of c.args.cvrp.now) + 1))
    (map-take_all (λ (r : Vec ℕ Global). r.items) c.args.routes.now c.loop-route.route-index
    (omega (arith, c.loop-route-test.false)))

pub returns-clause-tour : goal.returns-clause-tour
returns-clause-tour c =
    let i : Instance = instance_of c.args.cvrp.now in
    let routes : List (List ℕ) = lists_of c.args.routes.now in
    subst (λ (v : List ℕ). IsTour (ring_size i routes) v) (sym (returns-clause-ring c))
    (IsTour-ring (customer_count i) routes c.requires.once)

pub returns-clause-size : goal.returns-clause-size
returns-clause-size c =
    let i : Instance = instance_of c.args.cvrp.now in
    let routes : List (List ℕ) = lists_of c.args.routes.now in
    let size : length c.loop-route.ring.items ≡ length (ring_from (customer_count i + 1) routes) =
    ap length (returns-clause-ring c) in
    omega (
      arith,
      size,
      length-ring_from (customer_count i + 1) routes,
      few_routes routes c.requires.filled,
      c.requires.once.0,
      c.customers-copy.ensures.value,
      c.customers-copy.ensures.few,
    )

pub returns-clause-fits : goal.returns-clause-fits
returns-clause-fits c =
    let i : Instance = instance_of c.args.cvrp.now in
    subst (λ (v : List ℕ). IsFitting i.capacity (demands_of i) v) (sym (returns-clause-ring c))
    (IsFitting-ring i (lists_of c.args.routes.now)
    (omega (arith, c.customers-copy.ensures.value, c.customers-copy.ensures.some)) c.requires)

pub returns-clause-cost : goal.returns-clause-cost
returns-clause-cost c =
    let i : Instance = instance_of c.args.cvrp.now in
    let routes : List (List ℕ) = lists_of c.args.routes.now in
    ap (tour_length (ring_distance i (length c.args.routes.now + 1))) (returns-clause-ring c)
    ∙ ring_cost i (length c.args.routes.now + 1) (table_distance-same c.args.cvrp.now.table) routes
    (omega (arith, length-lists c.args.routes.now)) c.requires
