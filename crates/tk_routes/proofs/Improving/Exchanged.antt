-- Routes of which one is replaced by a permutation of it.
use Rattle.std.proofs.Common.{◌≡◌, ℕ, ◌+◌, ◌≤◌, List, [], ◌∷◌, ◌++◌, length, ◌∙◌, arith, length-append, eqb}
use Rattle.std.proofs.Common.{cond}
use Rattle.std.specs.List.{All, concat}
use Rattle.std.specs.List.Sorted.{IsPermutation}
use Rattle.std.proofs.lemmas.List.{get_or_default}
use Rattle.std.proofs.lemmas.List.Elements.{All-cons, All-head, All-tail, All-append}
use Rattle.std.proofs.lemmas.List.Folds.{concat-append}
use Rattle.std.proofs.lemmas.List.Sorted.{sum_by-IsPermutation, length_permutation, IsPermutation-append_left}
use Rattle.std.proofs.lemmas.List.Sorted.{IsPermutation-append_right}
use Rattle.std.proofs.lemmas.List.Sums.{sum_by-append, sum_by-cons}
use Rattle.tk_distance.specs.Cities.{IsCity}
use Rattle.tk_tour.specs.Tour.{IsTour, occurrences}
use Rattle.tk_tour.proofs.Tours.{HoldsOnce-tour, city_in_range}
use Rattle.tk_routes.specs.Instance.{Instance, customer_count, demand_of}
use Rattle.tk_routes.specs.Routes.{AreRoutes, IsLight, route_load, route_length, routes_cost}
use Rattle.tk_routes.specs.RouteVerdicts.{AreServedOnce}
use Rattle.tk_routes.proofs.CutLists.{All-front, All-back}
use Rattle.tk_routes.proofs.ServedCustomers.{AreServedOnce-part, AreServedOnce-short}

occurrences-permutation : (c : ℕ) (xs ys : List ℕ) → IsPermutation xs ys → occurrences c ys ≡ occurrences c xs
unfolding occurrences
occurrences-permutation c xs ys h = sum_by-IsPermutation (λ x. cond (eqb x c) 1 0) xs ys h

IsTour-permutation : (n : ℕ) (xs ys : List ℕ) → IsTour n xs → IsPermutation xs ys → IsTour n ys
IsTour-permutation n xs ys tour h =
    (length_permutation xs ys h ∙ tour.0, λ c low high. occurrences-permutation c xs ys h ∙ tour.1 c low high)

-- valid routes serve each customer once
pub AreServedOnce-routes : (i : Instance) (routes : List (List ℕ)) → AreRoutes i routes →
    AreServedOnce (customer_count i) (concat routes)
AreServedOnce-routes i routes h =
    let m : ℕ = customer_count i in
    let xs : List ℕ = concat routes in
    let known : All (IsCity m) xs = λ k d lt.
    let within = city_in_range m xs k h.once lt in
    let at = get_or_default xs k d 0 lt in
    (omega (arith, within.0, at), omega (arith, within.1, at)) in
    record { known = known; once = HoldsOnce-tour m xs h.once }

-- facts about one of the routes
pub route_known : (i : Instance) (front back : List (List ℕ)) (route : List ℕ) → AreRoutes i (front ++ route ∷ back) →
    All (IsCity (customer_count i)) route × (1 ≤ length route) × (length route ≤ customer_count i)
route_known i front back route h =
    let served = AreServedOnce-part (customer_count i) front route back
    (AreServedOnce-routes i (front ++ route ∷ back) h) in (
      served.known,
      All-head (λ (v : List ℕ). 1 ≤ length v) route back
          (All-back (λ (v : List ℕ). 1 ≤ length v) front (route ∷ back) h.filled),
      AreServedOnce-short (customer_count i) route served,
    )

-- what is true of all routes stays true after the replacement if it is true of the new route
exchanged_all : (P : List ℕ → Type 0) (front back : List (List ℕ)) (old new : List ℕ) → All P (front ++ old ∷ back) →
    (P old → P new) → All P (front ++ new ∷ back)
exchanged_all P front back old new h one =
    let rest = All-back P front (old ∷ back) h in
    All-append P front (new ∷ back) (All-front P front (old ∷ back) h)
    (All-cons P new back (one (All-head P old back rest)) (All-tail P old back rest))

pub AreRoutes-exchanged : (i : Instance) (front back : List (List ℕ)) (old new : List ℕ) →
    AreRoutes i (front ++ old ∷ back) → IsPermutation old new → AreRoutes i (front ++ new ∷ back)
AreRoutes-exchanged i front back old new h same =
    let size = length_permutation old new same in
    let load : route_load i new ≡ route_load i old = sum_by-IsPermutation (demand_of i) old new same in
    let all : IsPermutation (concat (front ++ old ∷ back)) (concat (front ++ new ∷ back)) =
    rw (concat-append front (old ∷ back), concat-append front (new ∷ back))
    (IsPermutation-append_right (concat front) (old ++ concat back) (new ++ concat back)
    (IsPermutation-append_left (concat back) old new same)) in
    record {
      filled =
          exchanged_all (λ (v : List ℕ). 1 ≤ length v) front back old new h.filled (λ some. omega (arith, some, size));
      once =
          IsTour-permutation (customer_count i) (concat (front ++ old ∷ back))
          (concat (front ++ new ∷ back)) h.once all;
      light = exchanged_all (IsLight i) front back old new h.light (λ light. omega (arith, light, load));
    }

pub routes_cost-at : (i : Instance) (front back : List (List ℕ)) (route : List ℕ) →
    routes_cost i (front ++ route ∷ back) ≡ routes_cost i front + (route_length i route + routes_cost i back)
routes_cost-at i front back route =
    omega (arith, sum_by-append (route_length i) front (route ∷ back), sum_by-cons (route_length i) route back)

-- there are at most as many routes as customers
pub few_routes : (routes : List (List ℕ)) → All (λ (v : List ℕ). 1 ≤ length v) routes →
    length routes ≤ length (concat routes)
few_routes [] filled = omega arith
few_routes (route ∷ routes) filled =
    omega (
      arith,
      length-append route (concat routes),
      All-head (λ (v : List ℕ). 1 ≤ length v) route routes filled,
      few_routes routes (All-tail (λ (v : List ℕ). 1 ≤ length v) route routes filled),
    )
