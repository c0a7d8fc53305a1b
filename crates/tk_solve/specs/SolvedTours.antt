-- The result of a search for a tour.
--     IsSolved task Watched solved      the best tour of the runs, a report of each, and their events
--     IsSound task solved      properties of the tour and of the reports, whatever the runs were
use Rattle.std.specs.Prelude.{◌≡◌, ◌≤ℤ◌, ℕ, ◌-◌, List, ◌++◌, All, length, map, min, pos}
use Rattle.std.specs.Int.RustNames.{unsigned_abs}
use Rattle.tk_near.specs.Near.{NearLists}
use Rattle.tk_tour.specs.Printed.{IsPrintedForm}
use Rattle.tk_tour.specs.Tour.{IsTour, tour_length}
use Rattle.tk_search.specs.SearchLaws.{IsFirstShortest}
use Rattle.tk_search.specs.Totals.{IsBounded}
use Rattle.tk_solve.specs.declared.outcome.RunReport.{RunReport}
use Rattle.tk_solve.specs.declared.tour.SolvedTour.{SolvedTour}
use Rattle.tk_solve.specs.Endings.{EndsAfter}
use Rattle.tk_solve.specs.Events.{Event, Asked}
use Rattle.tk_solve.specs.Runs.{Run, AreRuns, best_tours, report_of, shown_of}
use Rattle.tk_solve.specs.Starts.{TourTask, AreCandidates}

-- The requested runs, or those before the observer said no, each with its report, and the shortest of their best tours,
-- the earliest one if there are several, in canonical form. The events satisfy Watched: the trials of each run and its
-- end, and the questions between them, in order, and no others.
pub record IsSolved (task : TourTask) (Watched : List Event → Type 0) (solved : SolvedTour) : Type 0 where
  pub near : NearLists
  pub candidates : AreCandidates task near
  pub runs : List Run
  pub are : AreRuns task near runs
  pub stop : List Event
  pub ends : EndsAfter Asked task.runs (length runs) stop
  pub reports : solved.runs.items ≡ map (report_of task.distance) runs
  pub winner : List ℕ
  pub first : IsFirstShortest task.distance (best_tours runs) winner
  pub printed : IsPrintedForm winner solved.cities.items
  pub length_is : solved.length ≡ pos (tour_length task.distance solved.cities.items)
  pub watched : Watched (shown_of runs ++ stop)

-- the work of a run is bounded, and its best tour is not longer than its start
abbrev pub IsBoundedReport : TourTask → RunReport → Type 0
IsBoundedReport task report =
    IsBounded task.size (min task.candidates (task.size - 1)) task.rules (unsigned_abs report.best) report.totals

-- a tour of the cities that is not longer than the best tour and the start of each run; and the work of each run is
-- bounded
pub record IsSound (task : TourTask) (solved : SolvedTour) : Type 0 where
  pub tour : IsTour task.size solved.cities.items
  pub least : All (λ r. solved.length ≤ℤ r.best) solved.runs.items
  pub starts : All (λ r. solved.length ≤ℤ r.totals.start) solved.runs.items
  pub bounded : All (IsBoundedReport task) solved.runs.items
