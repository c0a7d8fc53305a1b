-- The runs of a search for routes.
--     Trials task j begun words t shown ended rest      t trials, and the events of each
--     IsRun task given ring j run      run j, counted from 0: its trials from the ring, with random words of its own
--     AreRuns task given ring runs      runs one after another, from run 0 on
--     reports_of k runs      the report of each run
--     best_rings runs      the best ring of each run
--     shown_of runs      the events of all runs
use Rattle.std.specs.Prelude.{◌≡◌, ℕ, ◌+◌, true, List, [], ◌∷◌, ◌++◌, Option, flat_map, length, map, pos}
use Rattle.rand_core.specs.Stream.{Stream}
use Rattle.tk_tour.specs.Tour.{tour_length}
use Rattle.tk_rings.specs.RingRoutes.{paths_of}
use Rattle.tk_routes.specs.Instance.{customer_count}
use Rattle.tk_routes.specs.RouteVerdicts.{filled_of}
use Rattle.tk_ring_search.specs.Given.{Given}
use Rattle.tk_ring_search.specs.Searching.{RingSearching, IsBegun, NextTrial}
use Rattle.tk_ring_search.specs.Totals.{is_better}
use Rattle.tk_ring_search.specs.declared.trials.totals.RingTrial.{RingTrial}
use Rattle.tk_solve.specs.Endings.{EndsAfter, question}
use Rattle.tk_solve.specs.Runs.{words_of}
use Rattle.tk_route_search.specs.Events.{Event, Asked, Ended}
use Rattle.tk_route_search.specs.Tasks.{RouteTask}
use Rattle.tk_route_search.specs.Watching.{AreShown, trial_event}
use Rattle.tk_route_search.specs.declared.outcome.RouteRun.{RouteRun}

-- the number of the trials of a run, the search after them, and its events
pub record Run : Type 0 where
  pub trials : ℕ
  pub ended : RingSearching
  pub shown : List Event

-- the number of routes with a customer on a ring of k customers
abbrev pub route_count : ℕ → List ℕ → ℕ
route_count k ring = length (filled_of (paths_of k ring))

-- the report of a run that ended with this search, on rings of k customers
abbrev pub report_of : ℕ → RingSearching → RouteRun
report_of k ended = record {
  best = pos (tour_length ended.given.distance ended.best);
  routes = route_count k ended.best;
  totals = ended.totals;
}

-- t trials of a search after its first descent, one after another, and the events of the descent and of each trial: the
-- observer is asked before a trial, and then shown it
pub data Trials (task : RouteTask) (j : ℕ) (begun : RingSearching) (words : Stream) :
    ℕ → List Event → RingSearching → Stream → Type 0 where
  descended : (better : Option (List (List ℕ))) → AreShown true (customer_count task.instance) begun.best better →
      Trials task j begun words 0
      (trial_event task j 0 (pos (tour_length begun.given.distance begun.best)) begun better ∷ []) begun words
  tried : {t : ℕ} {shown : List Event} {old new : RingSearching} {left rest : Stream} {trial : RingTrial}
      (better : Option (List (List ℕ))) →
      Trials task j begun words t shown old left → NextTrial old left new rest trial →
      AreShown (is_better trial.outcome) (customer_count task.instance) new.best better →
      Trials task j begun words (t + 1)
      ((shown ++ Asked true ∷ []) ++ trial_event task j (t + 1) trial.descent.after new better ∷ []) new rest

-- the trials of a search that has begun, and its events: those of the first descent and of all trials, unless the
-- observer said no
pub record AreTrialsMade (task : RouteTask) (j : ℕ) (begun : RingSearching) (shown : List Event)
    (ended : RingSearching) : Type 0 where
  pub count : ℕ
  pub tried : List Event
  pub rest : Stream
  pub trials : Trials task j begun (words_of (task.seed + j)) count tried ended rest
  pub stop : List Event
  pub ends : EndsAfter Asked (task.trials + 1) (count + 1) stop
  pub shown_is : shown ≡ tried ++ stop

-- a search from a ring after its trials, with the random words of the seed plus j, and its events
pub record IsSearched (task : RouteTask) (given : Given) (ring : List ℕ) (j : ℕ) (shown : List Event)
    (ended : RingSearching) : Type 0 where
  pub begun : RingSearching
  pub begins : IsBegun given ring begun
  pub made : AreTrialsMade task j begun shown ended

-- run j, counted from 0; its events are the question before it, those of its search, and then its report
pub record IsRun (task : RouteTask) (given : Given) (ring : List ℕ) (j : ℕ) (run : Run) : Type 0 where
  pub tried : List Event
  pub searched : IsSearched task given ring j tried run.ended
  pub trials : run.trials ≡ searched.made.count
  pub shown : run.shown ≡ question Asked j true
      ++ (tried ++ Ended (j + 1) (report_of (customer_count task.instance) run.ended) ∷ [])

-- runs one after another, from run 0 on
pub data AreRuns (task : RouteTask) (given : Given) (ring : List ℕ) : List Run → Type 0 where
  none : AreRuns task given ring []
  more : {runs : List Run} {run : Run} → AreRuns task given ring runs →
      IsRun task given ring (length runs) run → AreRuns task given ring (runs ++ run ∷ [])

-- the report of each run, on rings of k customers
abbrev pub reports_of : ℕ → List Run → List RouteRun
reports_of k runs = map (λ (run : Run). report_of k run.ended) runs

-- the best ring of each run
abbrev pub best_rings : List Run → List (List ℕ)
best_rings runs = map (λ (run : Run). run.ended.best) runs

-- the events of all runs
abbrev pub shown_of : List Run → List Event
shown_of runs = flat_map (λ (run : Run). run.shown) runs
