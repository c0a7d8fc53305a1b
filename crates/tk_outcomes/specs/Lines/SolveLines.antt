-- The lines that `solve` prints: the keys that it does not use, a line for each run or two for the routes, and the best
-- length.
use Rattle.std.specs.Prelude.{ℕ, List, ◌++◌, codes, decimal, flat_map, length}
use Rattle.std.specs.Int.RustNames.{unsigned_abs}
use Rattle.tk_writers.specs.Written.{line}
use Rattle.tk_params.specs.Keys as keys
use Rattle.tk_params.specs.declared.key.Key.{Key}
use Rattle.tk_routes.specs.declared.solving.route_report.RouteReport.{RouteReport}
use Rattle.tk_solve.specs.declared.outcome.RunReport.{RunReport}
use Rattle.tk_solve.specs.declared.tour.SolvedTour.{SolvedTour}
use Rattle.tk_outcomes.specs.Lines.BetweenLines.{between_lines}
use Rattle.tk_outcomes.specs.Lines.Parts.{numbered, work_of}
use Rattle.tk_outcomes.specs.declared.search.SearchOutcome.{SearchOutcome}
use Rattle.tk_outcomes.specs.declared.search.SearchOutcome.TheVariants.{Tour, Routes, Between}

-- a key that is read but not used
abbrev pub ignored_line : Key → List ℕ
ignored_line key = line (codes "ignored " ++ keys.key_word key)

-- the line of a run, numbered from 1
abbrev pub run_line : ℕ → RunReport → List ℕ
run_line number report =
    let totals = report.totals in
    line (codes "run " ++ decimal number ++ codes ": start " ++ decimal (unsigned_abs totals.start) ++ codes ", best "
    ++ decimal (unsigned_abs report.best)
    ++ codes ", trials " ++ decimal totals.trials ++ work_of totals.moves totals.tests totals.swaps)

-- the lines of runs, numbered from this number
abbrev pub run_lines : ℕ → List RunReport → List ℕ
run_lines = numbered run_line

abbrev pub best_line : ℕ → List ℕ
best_line length = line (codes "best " ++ decimal length)

-- all lines for a TSP
abbrev pub tour_lines : List Key → SolvedTour → List ℕ
tour_lines ignored solved =
    flat_map ignored_line ignored ++ run_lines 1 solved.runs.items ++ best_line (unsigned_abs solved.length)

-- the routes of the savings algorithm: their cost and their number
abbrev pub savings_line : ℕ → ℕ → List ℕ
savings_line cost routes = line (codes "savings " ++ decimal cost ++ codes ", routes " ++ decimal routes)

-- the improved routes: their cost, and the counts of the descents
abbrev pub improved_line : ℕ → ℕ → ℕ → ℕ → List ℕ
improved_line cost moves tests swaps = line (codes "improved " ++ decimal cost ++ work_of moves tests swaps)

-- all lines for a CVRP with this number of routes
abbrev pub route_lines : List Key → ℕ → RouteReport → List ℕ
route_lines ignored routes report =
    flat_map ignored_line ignored ++ savings_line (unsigned_abs report.before) routes
    ++ improved_line (unsigned_abs report.after) report.moves report.tests report.swaps
    ++ best_line (unsigned_abs report.after)

-- all lines on the outcome of a search
abbrev pub search_lines : List Key → SearchOutcome → List ℕ
search_lines ignored (Tour found) = tour_lines ignored found.solved
search_lines ignored (Routes found) = route_lines ignored (length found.routes.items) found.report
search_lines ignored (Between found) = flat_map ignored_line ignored ++ between_lines found.solved
