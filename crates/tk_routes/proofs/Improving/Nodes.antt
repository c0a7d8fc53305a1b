-- Nodes and their customers.
use Rattle.std.proofs.Common.{◌≡◌, ◌≢◌, ℕ, ◌-◌, ⊎_elim, List, [], ◌∷◌, ◌++◌, refl, sym, ap, ◌∙◌, arith}
use Rattle.std.specs.Prelude.{map}
use Rattle.std.specs.List.{concat, sum_by}
use Rattle.std.proofs.lemmas.Bool.{cases_eq}
use Rattle.std.proofs.lemmas.Bool.Decides.{nat_tests}
use Rattle.std.proofs.lemmas.List.{length-map, map-append}
use Rattle.std.proofs.lemmas.List.Sums.{sum_by-cons}
use Rattle.tk_distance.specs.Cities.{IsCity}
use Rattle.tk_starts.specs.PathEnds.{load_of}
use Rattle.tk_tour.specs.Tour.{IsTour, occurrences}
use Rattle.tk_tour.proofs.DistinctCycles.{occurrences-append}
use Rattle.tk_tour.proofs.Tours.{occurrences-nil, occurrences-same, occurrences-other}
use Rattle.tk_routes.specs.Instance.{Instance, node_of, customer_of, demand_of}

pub node_of-city : (n depot k : ℕ) → IsCity (n - 1) k → IsCity n (node_of depot k)
node_of-city n depot k h = grind (arith, nat_tests, h.0, h.1)

pub node_of-other : (depot k : ℕ) → node_of depot k ≢ depot
node_of-other depot k e = grind (arith, nat_tests, e)

pub node_of-customer_of : (depot c : ℕ) → c ≢ depot → node_of depot (customer_of depot c) ≡ c
node_of-customer_of depot c ne = grind (arith, nat_tests, ne)

pub customer_of-node_of : (depot k : ℕ) → customer_of depot (node_of depot k) ≡ k
customer_of-node_of depot k = grind (arith, nat_tests)

-- the first node is not the depot, and the others do not include it, if it does not occur
not_here : (depot x : ℕ) (xs : List ℕ) → occurrences depot (x ∷ xs) ≡ 0 → x ≢ depot
not_here depot x xs none e = absurd (omega (arith, none, occurrences-same depot x xs (sym e)))

not_later : (depot x : ℕ) (xs : List ℕ) → occurrences depot (x ∷ xs) ≡ 0 → occurrences depot xs ≡ 0
not_later depot x xs none = omega (arith, none, occurrences-append depot (x ∷ []) xs)

-- the nodes of the customers of nodes are these nodes
pub nodes_again : (depot : ℕ) (xs : List ℕ) → occurrences depot xs ≡ 0 →
    map (node_of depot) (map (customer_of depot) xs) ≡ xs
nodes_again depot [] none = refl
nodes_again depot (x ∷ xs) none =
    ap (λ v. v ∷ map (node_of depot) (map (customer_of depot) xs))
    (node_of-customer_of depot x (not_here depot x xs none))
    ∙ ap (λ v. x ∷ v) (nodes_again depot xs (not_later depot x xs none))

pub all_nodes_again : (depot : ℕ) (xss : List (List ℕ)) → occurrences depot (concat xss) ≡ 0 →
    map (map (node_of depot)) (map (map (customer_of depot)) xss) ≡ xss
all_nodes_again depot [] none = refl
all_nodes_again depot (xs ∷ xss) none =
    let parts = occurrences-append depot xs (concat xss) in
    let front : occurrences depot xs ≡ 0 = omega (arith, none, parts) in
    let back : occurrences depot (concat xss) ≡ 0 = omega (arith, none, parts) in
    ap (λ v. v ∷ map (map (node_of depot)) (map (map (customer_of depot)) xss)) (nodes_again depot xs front)
    ∙ ap (λ v. xs ∷ v) (all_nodes_again depot xss back)

-- the sum of the customers' demands is that of the nodes
pub load-customers : (i : Instance) (xs : List ℕ) → occurrences i.depot xs ≡ 0 →
    sum_by (demand_of i) (map (customer_of i.depot) xs) ≡ sum_by (load_of i.demands) xs
load-customers i [] none = refl
load-customers i (x ∷ xs) none =
    let same : demand_of i (customer_of i.depot x) ≡ load_of i.demands x =
    ap (load_of i.demands) (node_of-customer_of i.depot x (not_here i.depot x xs none)) in
    omega (
      arith,
      same,
      sum_by-cons (demand_of i) (customer_of i.depot x) (map (customer_of i.depot) xs),
      sum_by-cons (load_of i.demands) x xs,
      load-customers i xs (not_later i.depot x xs none),
    )

-- a customer occurs as often as its node
pub occurrences-customers : (depot c : ℕ) (xs : List ℕ) → occurrences depot xs ≡ 0 →
    occurrences c (map (customer_of depot) xs) ≡ occurrences (node_of depot c) xs
occurrences-customers depot c [] none = omega (arith, occurrences-nil c, occurrences-nil (node_of depot c))
occurrences-customers depot c (x ∷ xs) none =
    let rest = occurrences-customers depot c xs (not_later depot x xs none) in
    let apart = not_here depot x xs none in
    ⊎_elim
    (λ e.
    let here : c ≡ customer_of depot x = sym (customer_of-node_of depot c) ∙ ap (customer_of depot) e in
    omega (
      arith,
      rest,
      occurrences-same (node_of depot c) x xs e,
      occurrences-same c (customer_of depot x) (map (customer_of depot) xs) here,
    ))
    (λ ne.
    let other : c ≢ customer_of depot x = λ here. ne (ap (node_of depot) here ∙ node_of-customer_of depot x apart) in
    omega (
      arith,
      rest,
      occurrences-other (node_of depot c) x xs ne,
      occurrences-other c (customer_of depot x) (map (customer_of depot) xs) other,
    ))
    (cases_eq (node_of depot c) x)

pub concat-map : (f : ℕ → ℕ) (xss : List (List ℕ)) → concat (map (map f) xss) ≡ map f (concat xss)
concat-map f [] = refl
concat-map f (xs ∷ xss) = ap (λ v. map f xs ++ v) (concat-map f xss) ∙ sym (map-append f xs (concat xss))

-- if the depot and each other node occur once, so does each customer
pub IsTour-customers : (n depot : ℕ) (xs : List ℕ) → IsCity n depot → IsTour n (depot ∷ xs) →
    IsTour (n - 1) (map (customer_of depot) xs) × (occurrences depot xs ≡ 0)
IsTour-customers n depot xs city tour =
    let none : occurrences depot xs ≡ 0 =
    omega (arith, tour.1 depot city.0 city.1, occurrences-same depot depot xs refl) in (
      (
        omega (arith, tour.0, length-map xs (customer_of depot)),
        λ c low high.
            let node = node_of-city n depot c (low, high) in
            let once : occurrences (node_of depot c) (depot ∷ xs) ≡ 1 = tour.1 (node_of depot c) node.0 node.1 in
            omega (
              arith,
              once,
              occurrences-customers depot c xs none,
              occurrences-other (node_of depot c) depot xs (node_of-other depot c),
            ),
      ),
      none,
    )
