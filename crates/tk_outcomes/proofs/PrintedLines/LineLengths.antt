-- The lines that `solve` prints are short, and so are its files.
use Rattle.std.proofs.Common.{ℕ, ◌^◌, ◌≤◌, List, ◌++◌, length, length-append, arith, Option, Some, None}
use Rattle.std.specs.Prelude.{flat_map}
use Rattle.std.specs.Int.RustNames.{unsigned_abs}
use Rattle.tk_writers.proofs.Pieces.NumberLengths.{length_decimal, length_flat_map}
use Rattle.tk_params.proofs.WordLengths.{word_short}
use Rattle.tk_params.specs.Keys.{all_keys}
use Rattle.tk_params.specs.declared.key.Key.{Key}
use Rattle.tk_routes.specs.declared.solving.route_report.RouteReport.{RouteReport}
use Rattle.tk_route_search.specs.declared.outcome.RouteRun.{RouteRun}
use Rattle.tk_route_search.specs.declared.routes.SolvedRoutes.{SolvedRoutes}
use Rattle.tk_solve.specs.declared.outcome.RunReport.{RunReport}
use Rattle.tk_solve.specs.declared.tour.SolvedTour.{SolvedTour}
use Rattle.tk_outcomes.specs.declared.search.SearchOutcome.{SearchOutcome}
use Rattle.tk_outcomes.specs.declared.search.SearchOutcome.TheVariants.{Between, Routes}
use Rattle.tk_outcomes.specs.declared.search.SearchOutcome.TheVariants.{Tour as Found}
use Rattle.tk_outcomes.specs.Lines.BetweenLines.{between_lines, route_run_line, start_line}
use Rattle.tk_outcomes.specs.Lines.SolveLines.{ignored_line, route_lines, run_line, search_lines, tour_lines}
use Rattle.tk_outcomes.proofs.PrintedLines.RunLines.{numbered_short}

ignored_short : (key : Key) → length (ignored_line key) ≤ 50
ignored_short key = let a = word_short key in simp length-append (omega arith)

pub run_short : (number : ℕ) (r : RunReport) → length (run_line number r) ≤ 600
run_short number r =
    let a = length_decimal number in let b = length_decimal (unsigned_abs r.totals.start) in
    let c = length_decimal (unsigned_abs r.best) in
    let d = length_decimal r.totals.trials in let e = length_decimal r.totals.moves in
    let f = length_decimal r.totals.tests in let h = length_decimal r.totals.swaps in
    simp length-append (omega (arith, a, b, c, d, e, f, h))

all_ignored_short : (ks : List Key) → length ks ≤ length all_keys → length (flat_map ignored_line ks) ≤ 10000
all_ignored_short ks few = omega (arith, few, length_flat_map ignored_line 50 ignored_short ks)

tour_lines_short : (ks : List Key) (solved : SolvedTour) → length ks ≤ length all_keys →
    length solved.runs.items ≤ 10000 → length (tour_lines ks solved) ≤ 2 ^ 63
tour_lines_short ks solved few runs =
    let a = all_ignored_short ks few in let b = numbered_short run_line 600 run_short 1 solved.runs.items in
    let c = length_decimal (unsigned_abs solved.length) in
    simp length-append (omega (arith, a, b, c, runs))

route_lines_short : (ks : List Key) (routes : ℕ) (r : RouteReport) → length ks ≤ length all_keys →
    length (route_lines ks routes r) ≤ 2 ^ 63
route_lines_short ks routes r few =
    let a = all_ignored_short ks few in let b = length_decimal (unsigned_abs r.before) in
    let c = length_decimal routes in
    let d = length_decimal (unsigned_abs r.after) in let e = length_decimal r.moves in let f = length_decimal r.tests in
    let h = length_decimal r.swaps in
    simp length-append (omega (arith, a, b, c, d, e, f, h))

start_short : (cost routes : ℕ) (candidates : Option ℕ) → length (start_line cost routes candidates) ≤ 300
start_short cost routes None =
    let a = length_decimal cost in let b = length_decimal routes in simp length-append (omega (arith, a, b))
start_short cost routes (Some k) =
    let a = length_decimal cost in let b = length_decimal routes in let c = length_decimal k in
    simp length-append (omega (arith, a, b, c))

pub route_run_short : (number : ℕ) (r : RouteRun) → length (route_run_line number r) ≤ 700
route_run_short number r =
    let a = length_decimal number in let b = length_decimal (unsigned_abs r.totals.start) in
    let c = length_decimal (unsigned_abs r.best) in let d = length_decimal r.routes in
    let e = length_decimal r.totals.trials in let f = length_decimal r.totals.moves in
    let h = length_decimal r.totals.tests in let i = length_decimal r.totals.swaps in
    simp length-append (omega (arith, a, b, c, d, e, f, h, i))

between_lines_short : (ks : List Key) (solved : SolvedRoutes) → length ks ≤ length all_keys →
    length solved.runs.items ≤ 10000 → length (flat_map ignored_line ks ++ between_lines solved) ≤ 2 ^ 63
between_lines_short ks solved few runs =
    let a = all_ignored_short ks few in
    let b = start_short (unsigned_abs solved.start) solved.start_routes solved.candidates in
    let c = numbered_short route_run_line 700 route_run_short 1 solved.runs.items in
    let d = length_decimal (unsigned_abs solved.cost) in let e = length_decimal (length solved.routes.items) in
    simp length-append (omega (arith, a, b, c, d, e, runs))

pub search_lines_short : (ks : List Key) (o : SearchOutcome) → length ks ≤ length all_keys →
    length (search_lines ks o) ≤ 2 ^ 63
search_lines_short ks (Found found) few = tour_lines_short ks found.solved few found.few_runs
search_lines_short ks (Routes found) few = route_lines_short ks (length found.routes.items) found.report few
search_lines_short ks (Between found) few = between_lines_short ks found.solved few found.few_runs
