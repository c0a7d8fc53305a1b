-- The lists of the savings algorithm as routes.
use Rattle.std.proofs.Common.{◌≡◌, ℕ, ◌-◌, ◌<◌, ◌≤◌, List, [], ◌∷◌, length, Vec, sym, ap, ◌∙◌, subst, arith}
use Rattle.std.specs.Prelude.{map, flat_map}
use Rattle.std.specs.List.{All, concat, sum_by}
use Rattle.std.specs.Vec.{with_items}
use Rattle.std.proofs.lemmas.List.{length-map, with_items_is}
use Rattle.std.proofs.lemmas.List.Elements.{All-nil, All-get_or, All-map, All-weaker, All-cons, All-head, All-tail}
use Rattle.std.proofs.lemmas.List.Concat.{concat_is}
use Rattle.std.proofs.lemmas.List.Folds.{flat_map-map}
use Rattle.tk_distance.specs.Cities.{IsCity}
use Rattle.tk_starts.specs.PathEnds.{load_of}
use Rattle.tk_starts.specs.SavingsMerges.{AreLight, AreSavingsLists}
use Rattle.tk_tour.specs.Tour.{IsTour, occurrences}
use Rattle.tk_tour.proofs.DistinctCycles.{occurrences-append}
use Rattle.tk_routes.specs.Instance.{Instance, customer_count, node_of, customer_of}
use Rattle.tk_routes.specs.Routes.{AreRoutes, IsLight, route_load}
use Rattle.tk_routes.specs.SavingsRoutes.{AreSavingsRoutes}
use Rattle.tk_routes.proofs.Improving.Nodes.{all_nodes_again, load-customers, concat-map, IsTour-customers}

-- the demand of each node is within the capacity
pub AreLight-demands : (n hub capacity : ℕ) (demands : List ℕ) → length demands ≡ n → All (λ q. q ≤ capacity) demands →
    AreLight n hub (load_of demands) capacity
AreLight-demands n hub capacity demands size loads c city ne =
    let lt : c - 1 < length demands = omega (arith, city.0, city.1) in
    All-get_or (λ q. q ≤ capacity) demands (c - 1) 0 lt loads

concat_items : {X : Type 0} (f : X → List ℕ) (xs : List X) → flat_map f xs ≡ concat (map f xs)
concat_items f xs = sym (concat_is (map f xs) ∙ flat_map-map (λ x. x) f xs)

light_customers : (i : Instance) (lists : List (List ℕ)) → occurrences i.depot (concat lists) ≡ 0 →
    All (λ list. sum_by (load_of i.demands) list ≤ i.capacity) lists →
    All (IsLight i) (map (map (customer_of i.depot)) lists)
light_customers i [] none light = All-nil (IsLight i)
light_customers i (list ∷ lists) none light =
    let parts = occurrences-append i.depot list (concat lists) in
    let front : occurrences i.depot list ≡ 0 = omega (arith, none, parts) in
    let back : occurrences i.depot (concat lists) ≡ 0 = omega (arith, none, parts) in
    let here : route_load i (map (customer_of i.depot) list) ≤ i.capacity =
    omega (
      arith,
      load-customers i list front,
      All-head (λ (v : List ℕ). sum_by (load_of i.demands) v ≤ i.capacity)
          list lists light,
    ) in
    All-cons (IsLight i) (map (customer_of i.depot) list) (map (map (customer_of i.depot)) lists) here
    (light_customers i lists back
    (All-tail (λ (v : List ℕ). sum_by (load_of i.demands) v ≤ i.capacity) list lists light))

-- lists that are written over others, with their nodes numbered as customers
pub numbered_lists : {X Z : Type 0} (f : X → List ℕ) (depot : ℕ) (v : Vec X Z) (old new : List X) → old ≡ v.items →
    length new ≡ v.len → map f new ≡ map (map (customer_of depot)) (map f old) →
    map f (with_items v new).items ≡ map (map (customer_of depot)) (map f v.items)
numbered_lists f depot v old new is size numbered = ap (map f) (with_items_is v new size) ∙ numbered
    ∙ ap (λ xs. map (map (customer_of depot)) (map f xs)) is

module _ {X : Type 0} (f : X → List ℕ) (i : Instance) (lists : List X) {routes : List (List ℕ)}
    (city : IsCity i.size i.depot) (is : routes ≡ map (map (customer_of i.depot)) (map f lists))
    (tour : IsTour i.size (i.depot ∷ flat_map f lists)) where
  customers : IsTour (i.size - 1) (map (customer_of i.depot) (concat (map f lists)))
      × (occurrences i.depot (concat (map f lists)) ≡ 0)
  customers =
      IsTour-customers i.size i.depot (concat (map f lists)) city
      (subst (λ (v : List ℕ). IsTour i.size (i.depot ∷ v)) (concat_items f lists) tour)

  pub AreRoutes-merged : All (λ list. 1 ≤ length (f list)) lists →
      All (λ list. sum_by (load_of i.demands) (f list) ≤ i.capacity) lists → AreRoutes i routes
  AreRoutes-merged filled light = subst (λ (v : List (List ℕ)). AreRoutes i v) (sym is) (record {
    filled = All-map (λ (route : List ℕ). 1 ≤ length route) (map (customer_of i.depot)) (map f lists)
        (All-weaker (λ (list : List ℕ). 1 ≤ length list)
        (λ (list : List ℕ). 1 ≤ length (map (customer_of i.depot) list))
        (λ list some. omega (arith, some, length-map list (customer_of i.depot))) (map f lists)
        (All-map (λ (list : List ℕ). 1 ≤ length list) f lists filled));
    once =
        subst (λ (v : List ℕ). IsTour (customer_count i) v)
        (sym (concat-map (customer_of i.depot) (map f lists))) customers.0;
    light =
        light_customers i (map f lists) customers.1
        (All-map (λ (list : List ℕ). sum_by (load_of i.demands) list ≤ i.capacity) f lists light);
  })

  pub AreSavingsRoutes-merged : (near : ℕ → List ℕ) →
      AreSavingsLists i.distance near i.size i.depot (load_of i.demands) i.capacity (map f lists) →
      AreSavingsRoutes i near routes
  AreSavingsRoutes-merged near merged =
      let again : map (map (node_of i.depot)) routes ≡ map f lists = ap (map (map (node_of i.depot))) is
      ∙ all_nodes_again i.depot (map f lists) customers.1 in
      subst (λ (v : List (List ℕ)). AreSavingsLists i.distance near i.size i.depot (load_of i.demands) i.capacity v)
      (sym again) merged
