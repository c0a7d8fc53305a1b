-- The result of a search for routes.
--     AreSolved task Watched solved      the best routes of the runs, a report of each, and their events
--     AreSound task solved      properties of the routes and of the reports, whatever the runs were
use Rattle.std.specs.Prelude.{◌≡◌, ◌+◌, ◌≤◌, ◌≤ℤ◌, ℕ, List, ◌∷◌, ◌++◌, All, length, pos}
use Rattle.std.specs.Int.RustNames.{unsigned_abs}
use Rattle.tk_lists.specs.Solution.{lists_of}
use Rattle.tk_near.specs.Near.{NearLists}
use Rattle.tk_rings.specs.RingRoutes.{AreRoutesOf, ring_distance, ring_of, ring_size}
use Rattle.tk_routes.specs.Instance.{customer_count}
use Rattle.tk_routes.specs.Routes.{AreRoutes, routes_cost}
use Rattle.tk_search.specs.SearchLaws.{IsFirstShortest}
use Rattle.tk_ring_search.specs.Totals.{IsBounded}
use Rattle.tk_solve.specs.Endings.{EndsAfter}
use Rattle.tk_route_search.specs.Events.{Event, Asked}
use Rattle.tk_route_search.specs.Runs.{Run, AreRuns, best_rings, reports_of, shown_of}
use Rattle.tk_route_search.specs.Tasks.{RouteTask, AreCandidates, IsStart, given_for, runs_of}
use Rattle.tk_route_search.specs.Watching.{AreShownRoutes}
use Rattle.tk_route_search.specs.declared.outcome.RouteRun.{RouteRun}
use Rattle.tk_route_search.specs.declared.routes.SolvedRoutes.{SolvedRoutes}

-- the work of a run is bounded
abbrev pub IsBoundedRun : RouteTask → List (List ℕ) → NearLists → RouteRun → Type 0
IsBoundedRun task start near r =
    IsBounded (given_for task (length start + 1) near) (ring_size task.instance start) (unsigned_abs r.best) r.totals

-- All runs begin with the ring of the same routes; those after the observer said no are not made. The routes are those
-- of the shortest of this ring and the best rings of the runs, the earliest one if there are several. The events
-- satisfy Watched, and routes among them are valid.
pub record AreSolved (task : RouteTask) (Watched : List Event → Type 0) (solved : SolvedRoutes) : Type 0 where
  pub start : List (List ℕ)
  pub begins : IsStart task start solved.candidates
  pub near : NearLists
  pub candidates : 2 ≤ customer_count task.instance → AreCandidates task (length start + 1) near
  pub runs : List Run
  pub are : AreRuns task (given_for task (length start + 1) near) (ring_of task.instance start) runs
  pub stop : List Event
  pub ends : EndsAfter Asked (runs_of task) (length runs) stop
  pub reports : solved.runs.items ≡ reports_of (customer_count task.instance) runs
  pub winner : List ℕ
  pub first : IsFirstShortest (ring_distance task.instance (length start + 1))
      (ring_of task.instance start ∷ best_rings runs) winner
  pub read : AreRoutesOf (customer_count task.instance) winner (lists_of solved.routes.items)
  pub cost : solved.cost ≡ pos (routes_cost task.instance (lists_of solved.routes.items))
  pub start_cost : solved.start ≡ pos (routes_cost task.instance start)
  pub start_count : solved.start_routes ≡ length start
  pub watched : Watched (shown_of runs ++ stop)
  pub shown : All (AreShownRoutes task.instance) (shown_of runs)
  pub bounded : All (IsBoundedRun task start near) solved.runs.items

-- Valid routes that are no dearer than the start and the best routes of each run. Each run begins with the start, and
-- its best routes are no dearer.
pub record AreSound (task : RouteTask) (solved : SolvedRoutes) : Type 0 where
  pub valid : AreRoutes task.instance (lists_of solved.routes.items)
  pub cheaper : solved.cost ≤ℤ solved.start
  pub least : All (λ r. solved.cost ≤ℤ r.best) solved.runs.items
  pub starts : All (λ r. r.totals.start ≡ solved.start) solved.runs.items
