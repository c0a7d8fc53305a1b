-- The results that are kept of completed runs.
use Rattle.std.specs.Prelude.{◌≡◌, ◌≢◌, ◌<ℤ◌, ◌≤ℤ◌, ℕ, ℤ, true, List, [], ◌∷◌, ◌++◌, length, pos}
use Rattle.tk_near.specs.Near.{NearLists}
use Rattle.tk_tour.specs.Tour.{tour_length}
use Rattle.tk_search.specs.Searching.{Searching}
use Rattle.tk_solve.specs.declared.outcome.Outcome.{Outcome}
use Rattle.tk_solve.specs.declared.outcome.RunReport.{RunReport}
use Rattle.tk_solve.specs.Endings.{EndsAfter, question}
use Rattle.tk_solve.specs.Events.{Event, Asked}
use Rattle.tk_solve.specs.Runs.{Run, AreSoFar, shown_of}
use Rattle.tk_solve.specs.Starts.{TourTask}

-- a report of each run, and the shortest of their best tours, the earliest one if there are several
abbrev pub AreKept : TourTask → NearLists → List Run → Outcome → Type 0
AreKept task near runs outcome = AreSoFar task near runs outcome.reports.items outcome.cities.items outcome.shortest

-- run j was added to the runs before it, whatever these are; its events after the question before it satisfy Watched
abbrev pub IsRunAdded : TourTask → NearLists → ℕ → (List Event → Type 0) → Outcome → Outcome → Type 0
IsRunAdded task near j Watched old new =
    (runs : List Run) → length runs ≡ j → AreKept task near runs old →
    (run : Run) × (AreKept task near (runs ++ run ∷ []) new
    × ((shown : List Event) × ((run.shown ≡ question Asked j true ++ shown) × Watched shown)))

-- all runs, unless the observer said no, and what is kept of them; their events satisfy Watched
pub record AreMade (task : TourTask) (near : NearLists) (Watched : List Event → Type 0) (outcome : Outcome) :
    Type 0 where
  pub runs : List Run
  pub kept : AreKept task near runs outcome
  pub stop : List Event
  pub ends : EndsAfter Asked task.runs (length runs) stop
  pub watched : Watched (shown_of runs ++ stop)

-- the length of the best tour of a search, and the report of a run that ended with it
abbrev pub best_length : (ℕ → ℕ → ℕ) → Searching → ℤ
best_length distance ended = pos (tour_length distance ended.best)

abbrev pub report_of : (ℕ → ℕ → ℕ) → Searching → RunReport
report_of distance ended = record { best = best_length distance ended; totals = ended.totals }

-- one more run, which ended with this search, was recorded: its best tour is kept if there was none before, or if it is
-- shorter
pub record IsTaken (distance : ℕ → ℕ → ℕ) (ended : Searching) (old new : Outcome) : Type 0 where
  pub reports : new.reports.items ≡ old.reports.items ++ report_of distance ended ∷ []
  pub first : old.reports.items ≡ [] →
      (new.cities.items ≡ ended.best) × (new.shortest ≡ best_length distance ended)
  pub shorter : best_length distance ended <ℤ old.shortest →
      (new.cities.items ≡ ended.best) × (new.shortest ≡ best_length distance ended)
  pub kept : old.reports.items ≢ [] → old.shortest ≤ℤ best_length distance ended →
      (new.cities ≡ old.cities) × (new.shortest ≡ old.shortest)
