-- Routes that are improved, each by itself. Positions are those in the list of the depot and a route, from 1.
--     place_distance dist nodes      the distances between the positions of a list of nodes
--     IsReadOff route cycle new      the route of a cycle of positions
--     IsFlipped old new moves swaps      the flips of moves lead from one order to another, by this many swaps
--     IsImproved i k m route new moves tests swaps      the result of a descent from the depot and the route
--     AreImproved i k m olds news moves tests swaps      each route is improved in this way
--     IsImprovement, AreImprovements      like IsImproved and AreImproved, with the report
--     IsImprovedPart i k m olds news      the routes before some position are improved in this way
--     most_tests k m places moves      the maximum number of tests of descents with this many moves in all
use Rattle.std.specs.Prelude.{◌≡◌, ℕ, ◌+◌, ◌-◌, ◌*◌, ◌/◌, ◌≤◌, ◌-ℤ◌, min, List, [], ◌∷◌, ◌++◌, length, map}
use Rattle.std.specs.Prelude.{IsPermutation, pos, slice_index}
use Rattle.std.specs.Int.RustNames.{unsigned_abs}
use Rattle.tk_distance.specs.Cities.{IsCity, city_at}
use Rattle.tk_near.specs.Near.{IsNear}
use Rattle.tk_tour.specs.Reversal.{AreReversed}
use Rattle.tk_tour.specs.Tour.{SameCycle}
use Rattle.tk_descent.specs.Awake.{one_to}
use Rattle.tk_descent.specs.Sweeps.{Pass}
use Rattle.tk_descent.specs.declared.descent.Report.{Report}
use Rattle.tk_routes.specs.Instance.{Instance, customer_count}
use Rattle.tk_routes.specs.Routes.{route_length, route_nodes, routes_cost}
use Rattle.tk_routes.specs.declared.solving.route_report.RouteReport.{RouteReport}

abbrev pub place_distance : (ℕ → ℕ → ℕ) → List ℕ → ℕ → ℕ → ℕ
place_distance dist nodes a b = dist (city_at nodes a) (city_at nodes b)

-- the customer at a position of the depot and the route: position 1 is the depot's
abbrev pub customer_at : List ℕ → ℕ → ℕ
customer_at route place = slice_index route (place - 2)

-- the first customer is not greater than the last
abbrev pub IsTurned : List ℕ → Type 0
IsTurned route = slice_index route 0 ≤ slice_index route (length route - 1)

-- the customers at the positions of a cycle after the depot's, in the direction in which the first is not greater than
-- the last
pub record IsReadOff (route cycle new : List ℕ) : Type 0 where
  pub places : List ℕ
  pub same : SameCycle cycle (1 ∷ places)
  pub read : new ≡ map (customer_at route) places
  pub turned : IsTurned new

-- the flips, at most three for each move, lead from one order to another by this many swaps
pub record IsFlipped (old new : List ℕ) (moves swaps : ℕ) : Type 0 where
  pub flips : ℕ
  pub few : flips ≤ 3 * moves
  pub reversed : AreReversed old new flips swaps

-- A descent with all cities awake, over the positions of the depot and the route. Each near list has the nearest k of
-- them, or all others if these are fewer. The new route is its result, read off from the depot on.
pub record IsImproved (i : Instance) (k m : ℕ) (route new : List ℕ) (moves tests swaps : ℕ) : Type 0 where
  pub near : ℕ → List ℕ
  pub nearest : (c : ℕ) → IsCity (length route + 1) c →
      IsNear (place_distance i.distance (route_nodes i route)) (length route + 1) (min k (length route)) c (near c)
  pub cycle : List ℕ
  pub looks : ℕ
  pub descent : Pass (place_distance i.distance (route_nodes i route)) near m
      (one_to (length route + 1)) cycle looks moves tests
  pub flipped : IsFlipped (one_to (length route + 1)) cycle moves swaps
  pub most : swaps ≤ 3 * ((length route + 1) / 4) * moves
  pub read : IsReadOff route cycle new

-- each route is improved in this way, with this many moves, tests and swaps in all
pub data AreImproved (i : Instance) (k m : ℕ) : List (List ℕ) → List (List ℕ) → ℕ → ℕ → ℕ → Type 0 where
  none : AreImproved i k m [] [] 0 0 0
  more : {olds news : List (List ℕ)} {old new : List ℕ} {moves tests swaps made tried taken : ℕ} →
      AreImproved i k m olds news moves tests swaps →
      IsImproved i k m old new made tried taken →
      AreImproved i k m (olds ++ old ∷ []) (news ++ new ∷ []) (moves + made) (tests + tried) (swaps + taken)

-- by how much the cost has decreased
abbrev pub fall_of : RouteReport → ℕ
fall_of report = unsigned_abs (report.before -ℤ report.after)

-- each move decreases the cost
abbrev pub MovesSave : Instance → List (List ℕ) → List (List ℕ) → ℕ → Type 0
MovesSave i olds news moves = moves + routes_cost i news ≤ routes_cost i olds

-- the positions of the descents over all routes: those of the customers, and the depot's on each route
abbrev pub place_count : Instance → List (List ℕ) → ℕ
place_count i routes = customer_count i + length routes

-- one look at each position, and six more for each move; a look tries k candidates, with 4 m offers for each
abbrev pub most_tests : ℕ → ℕ → ℕ → ℕ → ℕ
most_tests k m places moves = 4 * m * k * (places + 6 * moves)

-- a route improved by a descent, and the report of the descent
pub record IsImprovement (i : Instance) (k m : ℕ) (route new : List ℕ) (report : Report) : Type 0 where
  pub improved : IsImproved i k m route new report.moves report.tests report.swaps
  pub same : IsPermutation route new
  pub before : report.before ≡ pos (route_length i route)
  pub after : report.after ≡ pos (route_length i new)
  pub moves : report.moves + route_length i new ≤ route_length i route
  pub tests : report.tests ≤ most_tests k m (length route + 1) report.moves
  pub swaps : report.swaps ≤ 3 * ((length route + 1) / 4) * report.moves

-- each route improved by a descent of its own, and the report of all descents
pub record AreImprovements (i : Instance) (k m : ℕ) (olds news : List (List ℕ)) (report : RouteReport) : Type 0 where
  pub improved : AreImproved i k m olds news report.moves report.tests report.swaps
  pub before : report.before ≡ pos (routes_cost i olds)
  pub after : report.after ≡ pos (routes_cost i news)
  pub moves : MovesSave i olds news report.moves
  pub tests : report.tests ≤ most_tests k m (place_count i olds) report.moves

-- the routes before some position are improved in this way, and the others have not changed
pub record IsImprovedPart (i : Instance) (k m : ℕ) (olds news : List (List ℕ)) : Type 0 where
  pub front : List (List ℕ)
  pub done : List (List ℕ)
  pub back : List (List ℕ)
  pub moves : ℕ
  pub tests : ℕ
  pub swaps : ℕ
  pub before : olds ≡ front ++ back
  pub after : news ≡ done ++ back
  pub improved : AreImproved i k m front done moves tests swaps
