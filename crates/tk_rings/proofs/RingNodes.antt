-- The nodes of the elements of a ring.
use Rattle.std.proofs.Common.{◌≡◌, ◌≢◌, ℕ, zero, suc, ◌+◌, ◌-◌, ◌<◌, ◌≤◌, ⊎_elim, List, [], ◌∷◌, ◌++◌, length, get_or}
use Rattle.std.proofs.Common.{replicate, refl, sym, ap, ◌∙◌, arith, length-append}
use Rattle.std.specs.Prelude.{map}
use Rattle.std.specs.List.{All}
use Rattle.std.proofs.lemmas.Bool.{cases_eq}
use Rattle.std.proofs.lemmas.List.{get_or-map, length-map, get_or_at, get_or_append_left, get_or-append_right}
use Rattle.std.proofs.lemmas.List.{get_or-replicate, length-replicate}
use Rattle.std.proofs.lemmas.List.Elements.{All-head, All-tail}
use Rattle.tk_distance.specs.Cities.{IsCity, city_at}
use Rattle.tk_tour.specs.Tour.{walk}
use Rattle.tk_descent.specs.Awake.{one_to}
use Rattle.tk_descent.proofs.WakeExecutions.WokenQueue.{one_to-length}
use Rattle.tk_routes.specs.Instance.{Instance, customer_count, node_of}
use Rattle.tk_rings.specs.RingRoutes.{ring_nodes}

-- the entries of 1, 2, .. to n
pub one_to-at : (n k d : ℕ) → k < n → get_or (one_to n) k d ≡ k + 1
one_to-at zero k d lt = absurd (omega arith)
one_to-at (suc n) k d lt =
    ⊎_elim
    (λ (e : k ≡ n). get_or_at (one_to n) (suc n) [] d k (one_to-length n ∙ sym e) ∙ omega (arith, e))
    (λ (ne : k ≢ n). get_or_append_left (one_to n) (suc n ∷ []) d k (omega (arith, one_to-length n, ne))
    ∙ one_to-at n k d (omega (arith, ne)))
    (cases_eq k n)

module _ (i : Instance) (copies : ℕ) where
  length-customer_nodes : length (map (node_of i.depot) (one_to (customer_count i))) ≡ customer_count i
  length-customer_nodes =
      length-map (one_to (customer_count i)) (node_of i.depot) ∙ one_to-length (customer_count i)

  pub node-customer : (c : ℕ) → IsCity (customer_count i) c → city_at (ring_nodes i copies) c ≡ node_of i.depot c
  node-customer c city =
      let n : ℕ = customer_count i in
      let lt : c - 1 < n = omega (arith, city.0, city.1) in
      get_or_append_left (map (node_of i.depot) (one_to n)) (replicate copies i.depot) 0 (c - 1)
      (omega (arith, lt, length-customer_nodes))
      ∙ get_or-map (node_of i.depot) (one_to n) (c - 1) 0 0 (omega (arith, lt, one_to-length n))
      ∙ ap (node_of i.depot) (one_to-at n (c - 1) 0 lt ∙ omega (arith, city.0))

  pub node-copy : (c : ℕ) → customer_count i < c → c ≤ customer_count i + copies →
      city_at (ring_nodes i copies) c ≡ i.depot
  node-copy c low high =
      let n : ℕ = customer_count i in
      get_or-append_right (map (node_of i.depot) (one_to n)) (replicate copies i.depot) n (c - 1) 0
      length-customer_nodes (omega arith)
      ∙ get_or-replicate copies (c - 1 - n) i.depot 0 (omega arith)

  pub nodes-customers : (route : List ℕ) → All (IsCity (customer_count i)) route →
      map (city_at (ring_nodes i copies)) route ≡ map (node_of i.depot) route
  nodes-customers [] known = refl
  nodes-customers (c ∷ cs) known =
      ap (λ v. v ∷ map (city_at (ring_nodes i copies)) cs)
      (node-customer c (All-head (IsCity (customer_count i)) c cs known))
      ∙ ap (λ v. node_of i.depot c ∷ v) (nodes-customers cs (All-tail (IsCity (customer_count i)) c cs known))

  pub length-ring_nodes : length (ring_nodes i copies) ≡ customer_count i + copies
  length-ring_nodes =
      omega (
        arith,
        length-append (map (node_of i.depot) (one_to (customer_count i))) (replicate copies i.depot),
        length-customer_nodes,
        length-replicate copies i.depot,
      )

-- a way through a city is that to it and that from it
pub walk-through : (d : ℕ → ℕ → ℕ) (a : ℕ) (xs : List ℕ) (b : ℕ) (ys : List ℕ) →
    walk d a (xs ++ b ∷ ys) ≡ walk d a (xs ++ b ∷ []) + walk d b ys
walk-through d a [] b ys = omega arith
walk-through d a (x ∷ xs) b ys = omega (arith, walk-through d x xs b ys)
