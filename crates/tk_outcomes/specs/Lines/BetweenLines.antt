-- The lines that `solve` prints about a search between routes: the routes that the runs begin with, a line for each
-- run, and the best routes.
use Rattle.std.specs.Prelude.{ℕ, List, ◌++◌, Option, Some, None, codes, decimal, length}
use Rattle.std.specs.Int.RustNames.{unsigned_abs}
use Rattle.tk_writers.specs.Written.{line}
use Rattle.tk_route_search.specs.declared.outcome.RouteRun.{RouteRun}
use Rattle.tk_route_search.specs.declared.routes.SolvedRoutes.{SolvedRoutes}
use Rattle.tk_outcomes.specs.Lines.Parts.{numbered, work_of}

-- a label, a cost, and a number of routes
abbrev pub labelled_routes : List ℕ → ℕ → ℕ → List ℕ
labelled_routes label cost routes = label ++ decimal cost ++ codes ", routes " ++ decimal routes

-- the line of routes
abbrev pub routes_line : List ℕ → ℕ → ℕ → List ℕ
routes_line label cost routes = line (labelled_routes label cost routes)

-- savings routes over near lists of this length
abbrev pub ladder_line : ℕ → ℕ → ℕ → List ℕ
ladder_line cost routes candidates =
    line (labelled_routes (codes "savings ") cost routes ++ codes ", candidates " ++ decimal candidates)

-- the routes that the runs begin with
abbrev pub start_line : ℕ → ℕ → Option ℕ → List ℕ
start_line cost routes None = routes_line (codes "initial ") cost routes
start_line cost routes (Some candidates) = ladder_line cost routes candidates

-- the costs of a run, and its number of routes
abbrev pub costs_of : ℕ → RouteRun → List ℕ
costs_of number run =
    codes "run " ++ decimal number ++ codes ": start " ++ decimal (unsigned_abs run.totals.start)
    ++ labelled_routes (codes ", best ") (unsigned_abs run.best) run.routes

-- the line of a run, numbered from 1
abbrev pub route_run_line : ℕ → RouteRun → List ℕ
route_run_line number run =
    let totals = run.totals in
    line (costs_of number run ++ codes ", trials " ++ decimal totals.trials
    ++ work_of totals.moves totals.tests totals.swaps)

-- all lines about a search between routes
abbrev pub between_lines : SolvedRoutes → List ℕ
between_lines solved =
    start_line (unsigned_abs solved.start) solved.start_routes solved.candidates
    ++ numbered route_run_line 1 solved.runs.items
    ++ routes_line (codes "best ") (unsigned_abs solved.cost) (length solved.routes.items)
