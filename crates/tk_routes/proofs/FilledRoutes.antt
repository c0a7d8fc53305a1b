-- The routes with a customer.
use Rattle.std.proofs.Common.{◌≡◌, ℕ, ◌≤◌, List, [], ◌∷◌, ◌++◌, length, refl, sym, ap, ◌∙◌, subst, arith, ltb, cond}
use Rattle.std.proofs.Common.{◌<◌, ◌-◌, Bool}
use Rattle.std.specs.List.{All, concat}
use Rattle.std.proofs.lemmas.Bool.{ltb-true, lt-ltb}
use Rattle.std.proofs.lemmas.List.Elements.{All-filter, All-weaker, filter_passes}
use Rattle.std.proofs.lemmas.List.Sums.{sum_by-cons}
use Rattle.tk_tour.specs.Tour.{IsTour}
use Rattle.tk_routes.specs.Instance.{Instance, customer_count}
use Rattle.tk_routes.specs.Routes.{AreRoutes, IsLight, route_length, routes_cost}
use Rattle.tk_routes.specs.RouteVerdicts.{filled_of}
use Rattle.tk_routes.specs.Serving.{AreServed, AreMarked}
use Rattle.tk_routes.proofs.RouteCosts.{route_length-nil}
use Rattle.tk_routes.proofs.ServedCustomers.{IsTour-served, served_before}

-- a route with a customer is kept
filled_of-cons : (x : ℕ) (xs : List ℕ) (routes : List (List ℕ)) → filled_of ((x ∷ xs) ∷ routes) ≡ (x ∷ xs)
    ∷ filled_of routes
filled_of-cons x xs routes =
    let some : 0 < length (x ∷ xs) = omega arith in
    ap (λ b. cond b ((x ∷ xs) ∷ filled_of routes) (filled_of routes)) (lt-ltb 0 (length (x ∷ xs)) some)

pub concat-filled : (routes : List (List ℕ)) → concat (filled_of routes) ≡ concat routes
concat-filled [] = refl
concat-filled ([] ∷ routes) = concat-filled routes
concat-filled ((x ∷ xs) ∷ routes) = ap concat (filled_of-cons x xs routes)
    ∙ ap (λ v. (x ∷ xs) ++ v) (concat-filled routes)

pub routes_cost-filled : (i : Instance) (routes : List (List ℕ)) → ((a : ℕ) → i.distance a a ≡ 0) →
    routes_cost i (filled_of routes) ≡ routes_cost i routes
routes_cost-filled i [] diagonal = refl
routes_cost-filled i ([] ∷ routes) diagonal =
    omega (
      arith,
      routes_cost-filled i routes diagonal,
      route_length-nil i diagonal,
      sum_by-cons (route_length i) [] routes,
    )
routes_cost-filled i ((x ∷ xs) ∷ routes) diagonal =
    omega (
      arith,
      ap (routes_cost i) (filled_of-cons x xs routes),
      routes_cost-filled i routes diagonal,
      sum_by-cons (route_length i) (x ∷ xs) routes,
      sum_by-cons (route_length i) (x ∷ xs) (filled_of routes),
    )

filled_all : (routes : List (List ℕ)) → All (λ (route : List ℕ). 1 ≤ length route) (filled_of routes)
filled_all routes = All-weaker _ _ (λ (route : List ℕ) passes. ltb-true 0 (length route) passes) (filled_of routes)
    (filter_passes (λ (route : List ℕ). ltb 0 (length route)) routes)

-- if all customers are marked, only the cost can be wrong
pub AreRoutes-marked : (i : Instance) (served : List Bool) (routes : List (List ℕ)) → length served ≡ customer_count i →
    AreServed served (concat routes) → All (IsLight i) routes →
    AreMarked served (length served) → AreRoutes i (filled_of routes)
AreRoutes-marked i served routes size h light marked = record {
  filled = filled_all routes;
  once = subst (λ (v : List ℕ). IsTour (customer_count i) v) (sym (concat-filled routes))
      (subst (λ (m : ℕ). IsTour m (concat routes)) size
      (IsTour-served (length served) (concat routes) h.once
      (λ c low high. served_before served (concat routes) c h (low, high) (marked (c - 1) (omega arith)))));
  light = All-filter _ (IsLight i) routes light;
}
