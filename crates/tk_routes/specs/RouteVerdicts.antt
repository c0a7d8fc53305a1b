-- Verdicts on the routes and the cost of a solution.
--     StandsAt routes r x earlier      x is on the r-th route, after the customers `earlier` in the order of the text
--     AreServedOnce m xs      customers from 1 to m, none of them twice
--     IsFirstOver i routes r load      the r-th route is the first whose load exceeds the capacity
--     filled_of routes      the routes with a customer
--     IsRouteVerdict i routes cost verdict      the first fault, or that there is none
use Rattle.std.specs.Prelude.{◌≡◌, ◌≢◌, ◌+◌, ◌<◌, ◌≤◌, ℕ, ℤ, pos, List, ◌∷◌, ◌++◌, length, nat_lt, filter}
use Rattle.std.specs.List.{All, concat}
use Rattle.tk_distance.specs.Cities.{IsCity}
use Rattle.tk_tour.specs.Tour.{occurrences}
use Rattle.tk_routes.specs.Instance.{Instance, customer_count}
use Rattle.tk_routes.specs.Routes.{AreRoutes, IsLight, route_load, routes_cost}
use Rattle.tk_routes.specs.declared.checking.verdict.RouteVerdict.{RouteVerdict}
use Rattle.tk_routes.specs.declared.checking.verdict.RouteVerdict.TheVariants.{Valid, BadCustomer, ServedTwice}
use Rattle.tk_routes.specs.declared.checking.verdict.RouteVerdict.TheVariants.{OverCapacity, NotServed, WrongCost}

-- x is on the r-th route, counted from 1, and `earlier` are the customers before it in the order of the text
pub record StandsAt (routes : List (List ℕ)) (r x : ℕ) (earlier : List ℕ) : Type 0 where
  pub before : List (List ℕ)
  pub front : List ℕ
  pub back : List ℕ
  pub after : List (List ℕ)
  pub text : routes ≡ before ++ (front ++ x ∷ back) ∷ after
  pub number : r ≡ length before + 1
  pub earlier_is : earlier ≡ concat before ++ front

-- each is a customer from 1 to m, and none occurs twice
pub record AreServedOnce (m : ℕ) (xs : List ℕ) : Type 0 where
  pub known : All (IsCity m) xs
  pub once : (c : ℕ) → occurrences c xs ≤ 1

-- a number not from 1 to m, or a customer that occurs earlier, too; the customers before it have no fault
abbrev pub IsCustomerFault : ℕ → List (List ℕ) → RouteVerdict → Type 0
IsCustomerFault m routes (BadCustomer r x) =
    (earlier : List ℕ) × (StandsAt routes r x earlier × AreServedOnce m earlier × (¬ IsCity m x))
IsCustomerFault m routes (ServedTwice x) =
    (r : ℕ)
    × ((earlier : List ℕ) × (StandsAt routes r x earlier × AreServedOnce m earlier × (1 ≤ occurrences x earlier)))
IsCustomerFault m routes _ = ⊥

-- the r-th route, counted from 1, is the first whose load exceeds the capacity
pub record IsFirstOver (i : Instance) (routes : List (List ℕ)) (r load : ℕ) : Type 0 where
  pub before : List (List ℕ)
  pub route : List ℕ
  pub after : List (List ℕ)
  pub text : routes ≡ before ++ route ∷ after
  pub number : r ≡ length before + 1
  pub light : All (IsLight i) before
  pub load_is : load ≡ route_load i route
  pub over : i.capacity < load

-- the verdict is the first such route
abbrev pub IsFirstOverIn : Instance → List (List ℕ) → RouteVerdict → Type 0
IsFirstOverIn i routes (OverCapacity r load) = IsFirstOver i routes r load
IsFirstOverIn i routes _ = ⊥

-- x is the lowest of 1 to m that does not occur in the list
pub record IsFirstMissing (m : ℕ) (xs : List ℕ) (x : ℕ) : Type 0 where
  pub known : IsCity m x
  pub missing : occurrences x xs ≡ 0
  pub lowest : (c : ℕ) → 1 ≤ c → c < x → occurrences c xs ≡ 1

-- the routes with a customer
abbrev pub filled_of : List (List ℕ) → List (List ℕ)
filled_of routes = filter (λ route. nat_lt 0 (length route)) routes

-- The first fault: customer by customer in the order of the text, then the first load over the capacity, then the
-- lowest customer that is on no route, then the cost. If there is none, the routes with a customer are valid, and have
-- this cost.
abbrev pub IsRouteVerdict : Instance → List (List ℕ) → ℤ → RouteVerdict → Type 0
IsRouteVerdict i routes cost (BadCustomer r x) = IsCustomerFault (customer_count i) routes (BadCustomer r x)
IsRouteVerdict i routes cost (ServedTwice x) = IsCustomerFault (customer_count i) routes (ServedTwice x)
IsRouteVerdict i routes cost (OverCapacity r load) =
    AreServedOnce (customer_count i) (concat routes) × IsFirstOver i routes r load
IsRouteVerdict i routes cost (NotServed x) =
    AreServedOnce (customer_count i) (concat routes) × All (IsLight i) routes
    × IsFirstMissing (customer_count i) (concat routes) x
IsRouteVerdict i routes cost (WrongCost read counted) =
    AreRoutes i (filled_of routes) × (read ≡ cost) × (counted ≡ pos (routes_cost i (filled_of routes)))
    × (read ≢ counted)
IsRouteVerdict i routes cost (Valid k counted) =
    AreRoutes i (filled_of routes) × (k ≡ length (filled_of routes))
    × (counted ≡ pos (routes_cost i (filled_of routes))) × (counted ≡ cost)
