-- The routes that are read off a ring.
use Rattle.std.proofs.Common.{◌≡◌, ◌≢◌, ℕ, zero, suc, ◌+◌, ◌-◌, ◌<◌, ◌≤◌, ⊎_elim, Bool, true, false, cond, ltb, leb}
use Rattle.std.proofs.Common.{List}
use Rattle.std.proofs.Common.{[], ◌∷◌, ◌++◌, length, get_or, refl, sym, ap, ◌∙◌, subst, arith, append-nil}
use Rattle.std.proofs.Common.{length-append}
use Rattle.std.proofs.Common.{inl, inr, reverse, drop}
use Rattle.std.specs.Prelude.{map}
use Rattle.std.specs.List.{All, concat, sum_by}
use Rattle.std.specs.List.Sorted.{IsPermutation, IsNonDecreasingBy}
use Rattle.std.proofs.lemmas.Bool.{cases_eq, lt-ltb, le-ltb}
use Rattle.std.proofs.lemmas.List.{map-append, length-reverse, get_or_default, drop_more}
use Rattle.std.proofs.lemmas.List.Elements.{All-cons, All-head, All-nil, All-tail}
use Rattle.std.proofs.lemmas.List.Sorted.{IsPermutation-refl, IsPermutation-trans}
use Rattle.std.proofs.lemmas.List.Sorted.{IsPermutation-middle, IsPermutation-append_left, IsPermutation-reverse}
use Rattle.std.proofs.lemmas.List.Sorted.{All-permutation, length_permutation, sum_by-IsPermutation}
use Rattle.std.proofs.lemmas.List.Sums.{sum_by-cons}
use Rattle.tk_distance.specs.Cities.{IsCity, city_at}
use Rattle.tk_near.specs.Keeping.{Climbing, insert_by}
use Rattle.tk_near.proofs.SortedInsertion.{IsPermutation-insert_by, Climbing-insert_by}
use Rattle.tk_tour.specs.Tour.{IsTour, IsRotation, SameCycle, occurrences, walk, tour_length}
use Rattle.tk_tour.proofs.DistinctCycles.{occurrences-append, occurrences-reverse, occurrences-rotation}
use Rattle.tk_tour.proofs.Tours.{occurrences-nil, occurrences-index, occurrences-outside, occurrences-other}
use Rattle.tk_tour.proofs.Tours.{inside_or_not, city_in_range, HoldsOnce-tour}
use Rattle.tk_tour.proofs.Cycle.{IsRotation-append, IsRotation-trans}
use Rattle.tk_descent.proofs.MovesOnTours.Length.{length-cycle, reverse-cons}
use Rattle.tk_descent.proofs.MovesOnTours.Steps.{length-rotation}
use Rattle.tk_routes.specs.Instance.{Instance, customer_count}
use Rattle.tk_routes.specs.RouteVerdicts.{filled_of}
use Rattle.tk_routes.specs.Routes.{AreRoutes, IsLight, route_length, routes_cost}
use Rattle.tk_routes.proofs.CutLists.{All-front, All-back}
use Rattle.tk_routes.proofs.Improving.ReadOffs.{IsTour-cycle}
use Rattle.tk_routes.proofs.Improving.Renumbered.{tour_length-map}
use Rattle.tk_routes.proofs.ServedCustomers.{IsTour-served}
use Rattle.tk_rings.specs.Capacities.{demand_in, is_copy, IsFitting}
use Rattle.tk_rings.specs.RingRoutes.{demands_of, first_of, paths_from, paths_of}
use Rattle.tk_rings.specs.RingRoutes.{ring_distance, ring_nodes, turned_route}
use Rattle.tk_rings.specs.StretchLaws.{fits-cycle}
use Rattle.tk_rings.proofs.MeetingRoutes.{from_test}
use Rattle.tk_rings.proofs.RingNodes.{node-copy, nodes-customers}
use Rattle.tk_rings.proofs.RingPaths.{Begun, begun_of, occurrences-paths, copies-paths, length-paths, walk-paths}
use Rattle.tk_rings.proofs.RingPaths.{by_copy, light-ring}
use Rattle.tk_rings.proofs.RingsMade.{load_same, length-demands}

-- the routes of the paths: those with a customer, each turned
abbrev pub turned_all : List (List ℕ) → List (List ℕ)
turned_all paths = map turned_route (filled_of paths)

-- with the routes that have been read, and a path that has been begun
abbrev pub closed_path : List (List ℕ) → List ℕ → List (List ℕ)
closed_path done path = cond (ltb 0 (length path)) (insert_by first_of (turned_route path) done) done

abbrev pub read_on : ℕ → List (List ℕ) → List ℕ → List ℕ → List (List ℕ)
read_on k done path [] = done
read_on k done path (c ∷ cs) =
    cond (ltb k c) (read_on k (closed_path done path) [] cs) (read_on k done (path ++ c ∷ []) cs)

-- a path with a customer, and one without
by_length : (P : Bool → Type 0) (path : List ℕ) → (1 ≤ length path → P true) → (length path ≡ 0 → P false) →
    P (ltb 0 (length path))
by_length P path some none = by_copy P 0 (length path) (λ lt. some (omega (arith, lt))) (λ le. none (omega (arith, le)))

permutation_on : (done : List (List ℕ)) (path : List ℕ) (paths : List (List ℕ)) →
    IsPermutation (done ++ turned_all (path ∷ paths)) (closed_path done path ++ turned_all paths)
permutation_on done path paths =
    by_length (λ t. IsPermutation
    (done ++ map turned_route (cond t (path ∷ filled_of paths) (filled_of paths)))
    (cond t (insert_by first_of (turned_route path) done) done ++ turned_all paths)) path
    (λ some. IsPermutation-trans (done ++ turned_route path ∷ turned_all paths)
    (turned_route path ∷ (done ++ turned_all paths))
    (insert_by first_of (turned_route path) done ++ turned_all paths)
    (IsPermutation-middle done (turned_route path) (turned_all paths))
    (IsPermutation-append_left (turned_all paths) (turned_route path ∷ done)
    (insert_by first_of (turned_route path) done) (IsPermutation-insert_by first_of (turned_route path) done)))
    (λ none. IsPermutation-refl (done ++ turned_all paths))

-- what is read are the routes of the paths, in another order
pub read_permutation : (k : ℕ) (done : List (List ℕ)) (path cs : List ℕ) →
    IsPermutation (done ++ turned_all (paths_from k path cs)) (read_on k done path cs)
read_permutation k done path [] =
    subst (λ (v : List (List ℕ)). IsPermutation v done) (sym (append-nil done)) (IsPermutation-refl done)
read_permutation k done path (c ∷ cs) =
    by_copy (λ t. IsPermutation
    (done ++ turned_all (cond t (path ∷ paths_from k [] cs) (paths_from k (path ++ c ∷ []) cs)))
    (cond t (read_on k (closed_path done path) [] cs) (read_on k done (path ++ c ∷ []) cs))) k c
    (λ here. IsPermutation-trans (done ++ turned_all (path ∷ paths_from k [] cs))
    (closed_path done path ++ turned_all (paths_from k [] cs)) (read_on k (closed_path done path) [] cs)
    (permutation_on done path (paths_from k [] cs)) (read_permutation k (closed_path done path) [] cs))
    (λ low. read_permutation k done (path ++ c ∷ []) cs)

climbing_on : (done : List (List ℕ)) (path : List ℕ) → Climbing first_of done →
    Climbing first_of (closed_path done path)
climbing_on done path h =
    by_length (λ t. Climbing first_of (cond t (insert_by first_of (turned_route path) done) done)) path
    (λ some. Climbing-insert_by first_of (turned_route path) done h) (λ none. h)

pub read_climbing : (k : ℕ) (done : List (List ℕ)) (path cs : List ℕ) → Climbing first_of done →
    Climbing first_of (read_on k done path cs)
read_climbing k done path [] h = h
read_climbing k done path (c ∷ cs) h =
    by_copy (λ t. Climbing first_of
    (cond t (read_on k (closed_path done path) [] cs) (read_on k done (path ++ c ∷ []) cs))) k c
    (λ here. read_climbing k (closed_path done path) [] cs (climbing_on done path h))
    (λ low. read_climbing k done (path ++ c ∷ []) cs h)

pub in_order : (routes : List (List ℕ)) → Climbing first_of routes → IsNonDecreasingBy first_of routes
in_order [] h = λ i j d le lt. absurd (omega (arith, lt))
in_order (r ∷ rs) h = at (in_order rs h.1)
  where
    at : IsNonDecreasingBy first_of rs → (i j : ℕ) (d : List ℕ) → i ≤ j → j < length (r ∷ rs) →
        first_of (get_or (r ∷ rs) i d) ≤ first_of (get_or (r ∷ rs) j d)
    at rest zero zero d le lt = omega arith
    at rest zero (suc j) d le lt = h.0 j d (omega (arith, lt))
    at rest (suc i) zero d le lt = absurd (omega (arith, le))
    at rest (suc i) (suc j) d le lt = rest i j d (omega (arith, le)) (omega (arith, lt))

-- what is the same for a path and its reverse has the same sum over the routes
module _ (F : List ℕ → ℕ) (nothing : F [] ≡ 0) (same : (path : List ℕ) → F (reverse path) ≡ F path) where
  turned-same : (path : List ℕ) → F (turned_route path) ≡ F path
  turned-same path = on (leb (first_of path) (get_or path (length path - 1) 0))
    where
      on : (t : Bool) → F (cond t path (reverse path)) ≡ F path
      on true = refl
      on false = same path

  empty : (path : List ℕ) → length path ≡ 0 → F path ≡ 0
  empty [] e = nothing
  empty (x ∷ xs) e = absurd (omega (arith, e))

  pub sum-turned : (paths : List (List ℕ)) → sum_by F (turned_all paths) ≡ sum_by F paths
  sum-turned [] = refl
  sum-turned (path ∷ paths) =
      by_length (λ t. sum_by F (map turned_route (cond t (path ∷ filled_of paths) (filled_of paths)))
      ≡ sum_by F (path ∷ paths)) path
      (λ some. omega (
        arith,
        sum_by-cons F (turned_route path) (turned_all paths),
        sum_by-cons F path paths,
        turned-same path,
        sum-turned paths,
      ))
      (λ none. omega (arith, sum_by-cons F path paths, empty path none, sum-turned paths))

-- what is true of the paths and of their reverses is true of the routes
pub All-turned : (P : List ℕ → Type 0) → ((path : List ℕ) → P path → P (reverse path)) → (paths : List (List ℕ)) →
    All P paths → All P (turned_all paths)
All-turned P back [] h = All-nil P
All-turned P back (path ∷ paths) h =
    let rest = All-turned P back paths (All-tail P path paths h) in
    by_length (λ t. All P (map turned_route (cond t (path ∷ filled_of paths) (filled_of paths)))) path
    (λ some. All-cons P (turned_route path) (turned_all paths)
    (on (leb (first_of path) (get_or path (length path - 1) 0)) (All-head P path paths h)) rest)
    (λ none. rest)
  where
    on : (t : Bool) → P path → P (cond t path (reverse path))
    on true p = p
    on false p = back path p

pub filled-turned : (paths : List (List ℕ)) → All (λ (r : List ℕ). 1 ≤ length r) (turned_all paths)
filled-turned [] = All-nil (λ (r : List ℕ). 1 ≤ length r)
filled-turned (path ∷ paths) =
    by_length (λ t. All (λ (r : List ℕ). 1 ≤ length r)
    (map turned_route (cond t (path ∷ filled_of paths) (filled_of paths)))) path
    (λ some. All-cons (λ (r : List ℕ). 1 ≤ length r) (turned_route path) (turned_all paths)
    (on (leb (first_of path) (get_or path (length path - 1) 0)) some) (filled-turned paths))
    (λ none. filled-turned paths)
  where
    on : (t : Bool) → 1 ≤ length path → 1 ≤ length (cond t path (reverse path))
    on true le = le
    on false le = omega (arith, le, length-reverse path)

pub fewer-turned : (paths : List (List ℕ)) → length (turned_all paths) ≤ length paths
fewer-turned [] = omega arith
fewer-turned (path ∷ paths) =
    by_length (λ t. length (map turned_route (cond t (path ∷ filled_of paths) (filled_of paths)))
    ≤ length (path ∷ paths)) path
    (λ some. omega (arith, fewer-turned paths)) (λ none. omega (arith, fewer-turned paths))

-- the elements of a concatenation, list by list
pub occurrences-concat : (x : ℕ) (routes : List (List ℕ)) →
    occurrences x (concat routes) ≡ sum_by (occurrences x) routes
occurrences-concat x [] = occurrences-nil x
occurrences-concat x (r ∷ rs) =
    omega (
      arith,
      occurrences-append x r (concat rs),
      sum_by-cons (occurrences x) r rs,
      occurrences-concat x rs,
    )

-- one more element is read
module _ (k : ℕ) (done : List (List ℕ)) (path items : List ℕ) (at : ℕ) (lt : at < length items) where
  reads : read_on k done path (drop at items) ≡ read_on k done path (get_or items at 0 ∷ drop (at + 1) items)
  reads = ap (read_on k done path) (drop_more items at 0 lt)

  pub read_low : get_or items at 0 ≤ k →
      read_on k done path (drop at items) ≡ read_on k done (path ++ get_or items at 0 ∷ []) (drop (at + 1) items)
  read_low le =
      reads
      ∙ ap (λ t. cond t (read_on k (closed_path done path) [] (drop (at + 1) items))
      (read_on k done (path ++ get_or items at 0 ∷ []) (drop (at + 1) items))) (le-ltb k (get_or items at 0) le)

  read_high : k < get_or items at 0 →
      read_on k done path (drop at items) ≡ read_on k (closed_path done path) [] (drop (at + 1) items)
  read_high l =
      reads
      ∙ ap (λ t. cond t (read_on k (closed_path done path) [] (drop (at + 1) items))
      (read_on k done (path ++ get_or items at 0 ∷ []) (drop (at + 1) items))) (lt-ltb k (get_or items at 0) l)

  pub read_some : k < get_or items at 0 → 1 ≤ length path →
      read_on k done path (drop at items)
      ≡ read_on k (insert_by first_of (turned_route path) done) [] (drop (at + 1) items)
  read_some l some =
      read_high l
      ∙ ap (λ t. read_on k (cond t (insert_by first_of (turned_route path) done) done) [] (drop (at + 1) items))
      (lt-ltb 0 (length path) (omega (arith, some)))

  pub read_none : k < get_or items at 0 → path ≡ [] →
      read_on k done path (drop at items) ≡ read_on k done path (drop (at + 1) items)
  read_none l e =
      read_high l
      ∙ ap (λ (v : List ℕ). read_on k (closed_path done v) [] (drop (at + 1) items)) e
      ∙ ap (λ (v : List ℕ). read_on k done v (drop (at + 1) items)) (sym e)

pub filled-insert : (route : List ℕ) (done : List (List ℕ)) → 1 ≤ length route →
    All (λ (r : List ℕ). 1 ≤ length r) done → All (λ (r : List ℕ). 1 ≤ length r) (insert_by first_of route done)
filled-insert route done some h =
    All-permutation (λ (r : List ℕ). 1 ≤ length r) (route ∷ done) (insert_by first_of route done)
    (IsPermutation-insert_by first_of route done) (All-cons (λ (r : List ℕ). 1 ≤ length r) route done some h)

pub length-turned_route : (path : List ℕ) → length (turned_route path) ≡ length path
length-turned_route path = on (leb (first_of path) (get_or path (length path - 1) 0))
  where
    on : (t : Bool) → length (cond t path (reverse path)) ≡ length path
    on true = refl
    on false = length-reverse path

map-reverse : (f : ℕ → ℕ) (xs : List ℕ) → map f (reverse xs) ≡ reverse (map f xs)
map-reverse f [] = refl
map-reverse f (x ∷ xs) =
    ap (map f) (reverse-cons x xs) ∙ map-append f (reverse xs) (x ∷ []) ∙ ap (λ v. v ++ f x ∷ []) (map-reverse f xs)
    ∙ sym (reverse-cons (f x) (map f xs))

-- the way from the depot along some elements and back
abbrev pub round_way : (ℕ → ℕ → ℕ) → ℕ → (ℕ → ℕ) → List ℕ → ℕ
round_way d depot node path = walk d depot (map node path ++ depot ∷ [])

round_way-reverse : (d : ℕ → ℕ → ℕ) (depot : ℕ) (node : ℕ → ℕ) → ((a b : ℕ) → d a b ≡ d b a) → (path : List ℕ) →
    round_way d depot node (reverse path) ≡ round_way d depot node path
round_way-reverse d depot node symmetric path =
    let ys : List ℕ = map node path in
    let back : IsRotation (depot ∷ reverse ys) (reverse (depot ∷ ys)) = record {
      front = depot ∷ [];
      back = reverse ys;
      before = refl;
      after = reverse-cons depot ys;
    } in
    ap (λ v. walk d depot (v ++ depot ∷ [])) (map-reverse node path)
    ∙ length-cycle d symmetric (depot ∷ reverse ys) (depot ∷ ys) (inr back)

length-concat : (paths : List (List ℕ)) → length (concat paths) ≡ sum_by (λ (p : List ℕ). length p) paths
length-concat [] = refl
length-concat (p ∷ ps) =
    omega (arith, length-append p (concat ps), sum_by-cons (λ (v : List ℕ). length v) p ps, length-concat ps)

light_routes : (i : Instance) (routes : List (List ℕ)) → All (IsCity (customer_count i)) (concat routes) →
    All (λ (r : List ℕ). sum_by (demand_in (demands_of i)) r ≤ i.capacity) routes → All (IsLight i) routes
light_routes i [] known light = All-nil (IsLight i)
light_routes i (r ∷ rs) known light =
    All-cons (IsLight i) r rs
    (omega (
      arith,
      load_same i r (All-front (IsCity (customer_count i)) r (concat rs) known),
      All-head (λ (v : List ℕ). sum_by (demand_in (demands_of i)) v ≤ i.capacity) r rs light,
    ))
    (light_routes i rs (All-back (IsCity (customer_count i)) r (concat rs) known)
    (All-tail (λ (v : List ℕ). sum_by (demand_in (demands_of i)) v ≤ i.capacity) r rs light))

costs_same : (i : Instance) (copies : ℕ) (routes : List (List ℕ)) →
    All (IsCity (customer_count i)) (concat routes) →
    routes_cost i routes ≡ sum_by (round_way i.distance i.depot (city_at (ring_nodes i copies))) routes
costs_same i copies [] known = refl
costs_same i copies (r ∷ rs) known =
    omega (
      arith,
      sum_by-cons (route_length i) r rs,
      sum_by-cons (round_way i.distance i.depot (city_at (ring_nodes i copies))) r rs,
      ap (λ v. walk i.distance i.depot (v ++ i.depot ∷ []))
          (nodes-customers i copies r (All-front (IsCity (customer_count i)) r (concat rs) known)),
      costs_same i copies rs (All-back (IsCity (customer_count i)) r (concat rs) known),
    )

module _ (i : Instance) (ring : List ℕ) (tour : IsTour (length ring) ring) (many : customer_count i < length ring)
    (routes : List (List ℕ)) (read : IsPermutation (turned_all (paths_of (customer_count i) ring)) routes) where
  abbrev k : ℕ
  k = customer_count i

  b : Begun (customer_count i) ring
  b = begun_of (customer_count i) ring
      (omega (arith, tour.1 (customer_count i + 1) (omega arith) (omega (arith, many))))

  abbrev paths : List (List ℕ)
  paths = paths_from (customer_count i) [] (b.rest ++ b.copy ∷ [])

  same_routes : IsPermutation (turned_all paths) routes
  same_routes =
      subst (λ (v : List ℕ). IsPermutation (turned_all (paths_from (customer_count i) [] v)) routes) b.is read

  sum_same : (F : List ℕ → ℕ) → F [] ≡ 0 → ((path : List ℕ) → F (reverse path) ≡ F path) →
      sum_by F routes ≡ sum_by F paths
  sum_same F nothing same =
      sum_by-IsPermutation F (turned_all paths) routes same_routes ∙ sum-turned F nothing same paths

  occurs : (x : ℕ) → occurrences x (concat routes) ≡ occurrences x (concat paths)
  occurs x =
      occurrences-concat x routes ∙ sum_same (occurrences x) (occurrences-nil x) (occurrences-reverse x)
      ∙ sym (occurrences-concat x paths)

  occurs_low : (x : ℕ) → x ≤ customer_count i → occurrences x (concat routes) ≡ occurrences x ring
  occurs_low x le =
      omega (
        arith,
        occurs x,
        occurrences-paths (customer_count i) b.copy b.high x [] b.rest le,
        occurrences-nil x,
        occurrences-other x b.copy b.rest (λ e. absurd (omega (arith, e, le, b.high))),
        occurrences-rotation x b.on,
      )

  occurs_high : (x : ℕ) → customer_count i < x → occurrences x (concat routes) ≡ 0
  occurs_high x lt =
      omega (arith, occurs x, copies-paths (customer_count i) b.copy b.high x [] b.rest lt, occurrences-nil x)

  pub known : All (IsCity (customer_count i)) (concat routes)
  known j d lt =
      let e : ℕ = get_or (concat routes) j 0 in
      let here = occurrences-index (concat routes) j lt in
      let at = get_or_default (concat routes) j d 0 lt in
      let city : IsCity (customer_count i) e =
      ⊎_elim
      (λ (c : (0 < e) × (e ≤ customer_count i)). c)
      (λ (out : 0 < e → customer_count i < e).
      ⊎_elim
      (λ (z : e ≡ 0). absurd
      (omega (
        arith,
        here,
        z,
        occurs_low e (omega (arith, z)),
        occurrences-outside (length ring) e ring tour (λ p. absurd (omega (arith, p, z))),
      )))
      (λ (nz : e ≢ 0). absurd (omega (arith, here, occurs_high e (out (omega (arith, nz))))))
      (cases_eq e 0))
      (inside_or_not (customer_count i) e) in
      (omega (arith, city.0, at), omega (arith, city.1, at))

  once : IsTour (customer_count i) (concat routes)
  once =
      IsTour-served (customer_count i) (concat routes)
      (record {
        known = known;
        once = λ c. from_test c (customer_count i)
            (λ le. omega (arith, occurs_low c le, HoldsOnce-tour (length ring) ring tour c))
            (λ lt. omega (arith, occurs_high c lt));
      })
      (λ c low high. omega (arith, occurs_low c high, tour.1 c low (omega (arith, high, many))))

  on_ring : SameCycle ring (b.rest ++ b.copy ∷ [])
  on_ring = inl (IsRotation-trans b.on (IsRotation-append (b.copy ∷ []) b.rest))

  pub AreRoutes-read : IsFitting i.capacity (demands_of i) ring → AreRoutes i routes
  AreRoutes-read fit =
      let q : ℕ = i.capacity in
      let demands : List ℕ = demands_of i in
      let size : length demands ≡ customer_count i = length-demands i in
      let closed = fits-cycle q (demand_in demands) (is_copy demands) ring (b.rest ++ b.copy ∷ []) on_ring ∙ fit.1 in
      let light : All (λ (p : List ℕ). sum_by (demand_in demands) p ≤ q) paths =
      subst (λ (n : ℕ). All (λ (p : List ℕ). sum_by (demand_in demands) p ≤ q)
      (paths_from n [] (b.rest ++ b.copy ∷ []))) size
      (light-ring q demands b.copy (omega (arith, size, b.high)) b.rest closed) in
      record {
        filled = All-permutation (λ (r : List ℕ). 1 ≤ length r) (turned_all paths) routes same_routes
            (filled-turned paths);
        once = once;
        light = light_routes i routes known
            (All-permutation (λ (p : List ℕ). sum_by (demand_in demands) p ≤ q) (turned_all paths) routes same_routes
            (All-turned (λ (p : List ℕ). sum_by (demand_in demands) p ≤ q)
            (λ path le. omega (
              arith,
              le,
              sum_by-IsPermutation (demand_in demands) path (reverse path) (IsPermutation-reverse path),
            )) paths light));
      }

  pub few_read : length routes + customer_count i ≤ length ring
  few_read =
      omega (
        arith,
        length_permutation (turned_all paths) routes same_routes,
        fewer-turned paths,
        length-paths (customer_count i) b.copy b.high [] b.rest,
        length-concat paths,
        sum_same (λ (p : List ℕ). length p) refl (λ path. length-reverse path),
        length-concat routes,
        once.0,
        length-rotation ring (b.copy ∷ b.rest) b.on,
      )

  whole : IsTour (length ring) (b.copy ∷ b.rest)
  whole = IsTour-cycle (length ring) ring (b.copy ∷ b.rest) tour (inl b.on)

  at_depot : All (λ c. customer_count i < c →
      city_at (ring_nodes i (length ring - customer_count i)) c ≡ i.depot) b.rest
  at_depot j d lt =
      let at = get_or_default b.rest j d 0 lt in
      let within = city_in_range (length ring) (b.copy ∷ b.rest) (suc j) whole (omega (arith, lt)) in
      λ low. node-copy i (length ring - customer_count i) (get_or b.rest j d) low (omega (arith, at, within.1, many))

  pub cost_read : ((x y : ℕ) → i.distance x y ≡ i.distance y x) → ((x : ℕ) → i.distance x x ≡ 0) →
      routes_cost i routes ≡ tour_length (ring_distance i (length ring - customer_count i)) ring
  cost_read symmetric diagonal =
      let copies : ℕ = length ring - customer_count i in
      let node : ℕ → ℕ = city_at (ring_nodes i copies) in
      let within = city_in_range (length ring) (b.copy ∷ b.rest) 0 whole (omega arith) in
      let here : node b.copy ≡ i.depot = node-copy i copies b.copy b.high (omega (arith, within.1, many)) in
      costs_same i copies routes known
      ∙ sum_same (round_way i.distance i.depot node) (omega (arith, diagonal i.depot))
      (round_way-reverse i.distance i.depot node symmetric)
      ∙ sym (walk-paths (customer_count i) b.copy b.high i.distance i.depot node [] b.rest at_depot)
      ∙ ap (λ v. walk i.distance v (map node b.rest ++ v ∷ [])) (sym here)
      ∙ tour_length-map i.distance node (b.copy ∷ b.rest)
      ∙ sym (length-cycle (ring_distance i copies) (λ x y. symmetric (node x) (node y)) ring (b.copy ∷ b.rest)
      (inl b.on))
