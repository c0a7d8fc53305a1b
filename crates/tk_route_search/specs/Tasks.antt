-- The options of a search for routes, and what its runs begin with.
--     RouteTask      an instance and the options
--     IsStart task start candidates      the routes that all runs begin with
--     AreCandidates task copies near      the near lists of the elements of a ring
--     given_for task copies near      the input of the search of each run
--     IsRing i n ring      a ring of n elements that fits
--     IsInput task ring given      an input of searches from a ring
use Rattle.std.specs.Prelude.{◌≡◌, ℕ, ◌+◌, ◌-◌, ◌<◌, ◌≤◌, Bool, List, Option, None, IsSomeAnd, length, min}
use Rattle.std.specs.Prelude.{if◌then◌else◌, nat_lt}
use Rattle.tk_problem.specs.declared.limits.TheConstants.{CITY_LIMIT}
use Rattle.tk_lists.specs.Solution.{lists_of}
use Rattle.tk_near.specs.Near.{NearLists, AreNearListsAmong}
use Rattle.tk_tour.specs.Tour.{IsTour}
use Rattle.tk_rings.specs.Capacities.{IsFitting}
use Rattle.tk_rings.specs.RingRoutes.{demands_of, ring_distance}
use Rattle.tk_routes.specs.Cvrps.{instance_of}
use Rattle.tk_routes.specs.Instance.{Instance, customer_count}
use Rattle.tk_routes.specs.RouteVerdicts.{filled_of}
use Rattle.tk_routes.specs.Routes.{AreRoutes}
use Rattle.tk_routes.specs.declared.cvrp.Cvrp.{Cvrp}
use Rattle.tk_ring_search.specs.Given.{Given}
use Rattle.tk_route_search.specs.Ladder.{IsLadderChoice}
use Rattle.tk_route_search.specs.declared.options.RouteStart.{RouteStart}
use Rattle.tk_route_search.specs.declared.options.RouteStart.TheVariants.{Ladder, Routes}
use Rattle.tk_route_search.specs.declared.options.SearchOptions.{SearchOptions}

-- the cheapest savings routes of the ladder, or given routes
pub data Begins : Type 0 where
  AtLadder : Begins
  At : (routes : List (List ℕ)) → Begins

pub record RouteTask : Type 0 where
  pub instance : Instance
  pub start : Begins
  pub runs : ℕ
  pub trials : ℕ
  pub seed : ℕ
  pub candidates : ℕ
  pub or_segment : ℕ
  pub sweep : Bool

abbrev pub begins_of : RouteStart → Begins
begins_of Ladder = AtLadder
begins_of (Routes given) = At (lists_of given.now)

abbrev pub task_of : Cvrp → SearchOptions → RouteTask
task_of cvrp o = record {
  instance = instance_of cvrp;
  start = begins_of o.start;
  runs = o.runs;
  trials = o.trials;
  seed = o.seed;
  candidates = o.candidates;
  or_segment = o.or_segment;
  sweep = o.final_sweep;
}

-- given routes are valid; some may be empty
abbrev pub AreGiven : Instance → RouteStart → Type 0
AreGiven i (Routes given) = AreRoutes i (filled_of (lists_of given.now))
AreGiven i Ladder = Unit {0}

abbrev pub IsStartBy : Instance → List (List ℕ) → Option ℕ → Begins → Type 0
IsStartBy i start candidates AtLadder =
    IsSomeAnd candidates (λ k. IsLadderChoice i (record { candidates = k; routes = start }))
IsStartBy i start candidates (At given) = (start ≡ filled_of given) × (candidates ≡ None)

-- the routes that all runs begin with, and the length of the near lists that savings routes were made with
abbrev pub IsStart : RouteTask → List (List ℕ) → Option ℕ → Type 0
IsStart task start candidates = IsStartBy task.instance start candidates task.start

-- the near lists of the elements of a ring with this many copies of the depot: only customers are candidates
abbrev pub AreCandidates : RouteTask → ℕ → NearLists → Type 0
AreCandidates task copies near =
    AreNearListsAmong (ring_distance task.instance copies) (customer_count task.instance + copies)
    (customer_count task.instance) (min task.candidates (customer_count task.instance - 1)) near

-- the input of the search of each run
abbrev pub given_for : RouteTask → ℕ → NearLists → Given
given_for task copies near = record {
  distance = ring_distance task.instance copies;
  near = near;
  capacity = task.instance.capacity;
  demands = demands_of task.instance;
  or_segment = task.or_segment;
  sweep = task.sweep;
  trials = task.trials;
}

-- the number of runs: with one customer there is nothing to search for
abbrev pub runs_of : RouteTask → ℕ
runs_of task = if nat_lt (customer_count task.instance) 2 then 0 else task.runs

-- the number of copies of the depot in a ring of all customers
abbrev pub copies_in : Instance → List ℕ → ℕ
copies_in i ring = length ring - customer_count i

-- a ring of n elements that fits
pub record IsRing (i : Instance) (n : ℕ) (ring : List ℕ) : Type 0 where
  pub tour : IsTour n ring
  pub few : n ≤ CITY_LIMIT
  pub copies : customer_count i < n
  pub fits : IsFitting i.capacity (demands_of i) ring

-- an input of searches from a ring
pub record IsInput (task : RouteTask) (ring : List ℕ) (given : Given) : Type 0 where
  pub stands : IsRing task.instance (length ring) ring
  pub lists : given.near.size ≡ length ring
  pub capacity : given.capacity ≡ task.instance.capacity
  pub demands : given.demands ≡ demands_of task.instance
  pub or_segment : given.or_segment ≡ task.or_segment
  pub sweep : given.sweep ≡ task.sweep
  pub trials : given.trials ≡ task.trials
