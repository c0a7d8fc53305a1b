-- The results that are kept of completed runs.
use Rattle.std.specs.Prelude.{◌≡◌, ◌≤◌, ◌<ℤ◌, ◌≤ℤ◌, ℕ, true, List, [], ◌∷◌, ◌++◌, length, pos}
use Rattle.tk_near.specs.Near.{NearLists}
use Rattle.tk_routes.specs.Instance.{customer_count}
use Rattle.tk_ring_search.specs.Given.{Given}
use Rattle.tk_ring_search.specs.Searching.{RingSearching}
use Rattle.tk_search.specs.SearchLaws.{IsFirstShortest}
use Rattle.tk_solve.specs.Endings.{EndsAfter, question}
use Rattle.tk_tour.specs.Tour.{tour_length}
use Rattle.tk_route_search.specs.Events.{Event, Asked}
use Rattle.tk_route_search.specs.Runs.{Run, AreRuns, best_rings, report_of, reports_of, shown_of}
use Rattle.tk_route_search.specs.Tasks.{RouteTask, AreCandidates, IsRing, copies_in, given_for, runs_of}
use Rattle.tk_route_search.specs.declared.outcome.Outcome.{Outcome}

-- a report of each run, and the shortest of the ring that they began with and their best rings, the earliest one if
-- there are several
pub record AreKept (task : RouteTask) (given : Given) (ring : List ℕ) (runs : List Run) (kept : Outcome) : Type 0 where
  pub are : AreRuns task given ring runs
  pub reports : kept.reports.items ≡ reports_of (customer_count task.instance) runs
  pub first : IsFirstShortest given.distance (ring ∷ best_rings runs) kept.ring.items
  pub stands : IsRing task.instance (length ring) kept.ring.items
  pub cost : kept.cost ≡ pos (tour_length given.distance kept.ring.items)
  pub start : kept.start ≡ pos (tour_length given.distance ring)

-- run j was added to the runs before it, whatever these are; its events after the question before it satisfy Watched
abbrev pub IsRunAdded : RouteTask → Given → List ℕ → ℕ → (List Event → Type 0) → Outcome → Outcome → Type 0
IsRunAdded task given ring j Watched old new =
    (runs : List Run) → length runs ≡ j → AreKept task given ring runs old →
    (run : Run) × (AreKept task given ring (runs ++ run ∷ []) new
    × ((shown : List Event) × ((run.shown ≡ question Asked j true ++ shown) × Watched shown)))

-- one more run, which ended with this search, was recorded: its best ring is kept if it is shorter
pub record IsTaken (k : ℕ) (ended : RingSearching) (old new : Outcome) : Type 0 where
  pub reports : new.reports.items ≡ old.reports.items ++ report_of k ended ∷ []
  pub start : new.start ≡ old.start
  pub shorter : pos (tour_length ended.given.distance ended.best) <ℤ old.cost →
      (new.ring.items ≡ ended.best) × (new.cost ≡ pos (tour_length ended.given.distance ended.best))
  pub kept : old.cost ≤ℤ pos (tour_length ended.given.distance ended.best) →
      (new.ring.items ≡ old.ring.items) × (new.cost ≡ old.cost)

-- all runs from a ring, unless the observer said no, and what is kept of them; their events satisfy Watched
pub record AreMade (task : RouteTask) (ring : List ℕ) (Watched : List Event → Type 0) (kept : Outcome) : Type 0 where
  pub near : NearLists
  pub candidates : 2 ≤ customer_count task.instance → AreCandidates task (copies_in task.instance ring) near
  pub runs : List Run
  pub stop : List Event
  pub ends : EndsAfter Asked (runs_of task) (length runs) stop
  pub made : AreKept task (given_for task (copies_in task.instance ring) near) ring runs kept
  pub watched : Watched (shown_of runs ++ stop)
