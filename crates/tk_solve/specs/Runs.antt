-- The runs of a search for a tour.
--     Trials reported begun words t shown ended rest      t trials, and the events of each
--     IsRun task near j run      run j, counted from 0: its trials from its start, with random words of its own
--     AreRuns task near runs      runs one after another, from run 0 on
--     best_tours runs      the best tour of each run
--     shown_of runs      the events of all runs
--     AreSoFar task near runs reports cities shortest      the results that are kept of these runs
use Rattle.std.specs.Prelude.{◌≡◌, ℕ, ℤ, ◌+◌, ◌≤◌, true, List, [], ◌∷◌, ◌++◌, flat_map, length, map, pos}
use Rattle.rand_core.specs.Pcg32Seed.{pcg32_seed}
use Rattle.rand_core.specs.Steps.{stream_of, steps_u32}
use Rattle.rand_core.specs.Stream.{Stream}
use Rattle.rand_pcg.specs.Pcg.{pcg32, pcg32_of_seed}
use Rattle.tk_near.specs.Near.{NearLists}
use Rattle.tk_tour.specs.Tour.{IsTour, tour_length}
use Rattle.tk_search.specs.Searching.{Searching, IsBegun, NextTrial}
use Rattle.tk_search.specs.SearchLaws.{IsFirstShortest}
use Rattle.tk_search.specs.declared.trials.totals.Totals.{Totals}
use Rattle.tk_search.specs.declared.trials.totals.TrialReport.{TrialReport}
use Rattle.tk_solve.specs.declared.outcome.RunReport.{RunReport}
use Rattle.tk_solve.specs.Endings.{EndsAfter, question}
use Rattle.tk_solve.specs.Events.{Event, Ended, Asked}
use Rattle.tk_solve.specs.Starts.{TourTask, IsStart, trials_of}
use Rattle.tk_solve.specs.Watching.{trial_event}

-- the start of a run, the number of its trials, the best tour that it found, its counters, and its events
pub record Run : Type 0 where
  pub start : List ℕ
  pub trials : ℕ
  pub best : List ℕ
  pub totals : Totals
  pub shown : List Event

abbrev pub run_length : (ℕ → ℕ → ℕ) → Run → ℕ
run_length distance run = tour_length distance run.best

-- the report of a run
abbrev pub report_of : (ℕ → ℕ → ℕ) → Run → RunReport
report_of distance run = record { best = pos (run_length distance run); totals = run.totals }

-- the random words of a generator with this seed (M. E. O'Neill, 2014)
abbrev pub words_of : ℕ → Stream
words_of seed = stream_of (steps_u32 pcg32) (pcg32_of_seed (pcg32_seed 16 seed))

-- t trials of a search, one after another, and the events of each: the observer is asked before it, unless it is the
-- first, and then shown it; `reported` makes the event of a trial from its number, counted from 0, the length of the
-- tour that it ended with, and the search after it
pub data Trials (reported : ℕ → ℤ → Searching → Event) (begun : Searching) (words : Stream) :
    ℕ → List Event → Searching → Stream → Type 0 where
  untried : Trials reported begun words 0 [] begun words
  tried : {t : ℕ} {shown : List Event} {old new : Searching} {left rest : Stream} {report : TrialReport} →
      Trials reported begun words t shown old left → NextTrial old left new rest report →
      Trials reported begun words (t + 1)
      ((shown ++ question Asked t true) ++ reported t report.descent.after new ∷ []) new rest

-- the search of run j, counted from 0, after its trials from a start, with the random words of the seed plus j: all of
-- them, unless the observer said no
pub record IsSearched (task : TourTask) (near : NearLists) (j : ℕ) (start : List ℕ) (shown : List Event)
    (ended : Searching) : Type 0 where
  pub begun : Searching
  pub begins : IsBegun begun task.distance near task.rules start
  pub made : ℕ
  pub tried : List Event
  pub rest : Stream
  pub trials : Trials (trial_event task j) begun (words_of (task.seed + j)) made tried ended rest
  pub stop : List Event
  pub ends : EndsAfter Asked (trials_of task) made stop
  pub shown_is : shown ≡ tried ++ stop

-- run j, counted from 0; its events are the question before it, those of its trials, and then its report
pub record IsRun (task : TourTask) (near : NearLists) (j : ℕ) (run : Run) : Type 0 where
  pub start : IsStart task near j run.start
  pub tour : IsTour task.size run.start
  pub tried : List Event
  pub ended : Searching
  pub searched : IsSearched task near j run.start tried ended
  pub trials : run.trials ≡ searched.made
  pub best : run.best ≡ ended.best
  pub totals : run.totals ≡ ended.totals
  pub shown : run.shown ≡ question Asked j true ++ (tried ++ Ended (j + 1) (report_of task.distance run) ∷ [])

-- runs one after another, from run 0 on
pub data AreRuns (task : TourTask) (near : NearLists) : List Run → Type 0 where
  none : AreRuns task near []
  more : {runs : List Run} {run : Run} → AreRuns task near runs → IsRun task near (length runs) run →
      AreRuns task near (runs ++ run ∷ [])

-- the best tour of each run
abbrev pub best_tours : List Run → List (List ℕ)
best_tours runs = map (λ run. run.best) runs

-- the events of all runs
abbrev pub shown_of : List Run → List Event
shown_of runs = flat_map (λ run. run.shown) runs

-- the results that are kept of these runs: a report of each, and the shortest of their best tours, the earliest one if
-- there are several
pub record AreSoFar (task : TourTask) (near : NearLists) (runs : List Run) (reports : List RunReport) (cities : List ℕ)
    (shortest : ℤ) : Type 0 where
  pub are : AreRuns task near runs
  pub reports_are : reports ≡ map (report_of task.distance) runs
  pub first : 1 ≤ length runs → IsFirstShortest task.distance (best_tours runs) cities
  pub tour : 1 ≤ length runs → IsTour task.size cities
  pub shortest_is : 1 ≤ length runs → shortest ≡ pos (tour_length task.distance cities)
