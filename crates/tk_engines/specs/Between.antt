-- The input, the search and the output of a search between the routes of a CVRP.
--     between_task s Watched      the task of a search with these settings, whose events satisfy Watched
--     between_files_task s Watched      like between_task, with the output
--     ReadsStart given      the initial solution is read if the runs begin with one
use Rattle.std.specs.Prelude.{◌≡◌, ℕ, ◌*◌, Bool, true, List, [], ◌∷◌, Option, Some, None, IsSomeAnd}
use Rattle.std.specs.Prelude.{option_map, unwrap_or}
use Rattle.tk_problem_text.specs.Problem.{ProblemIs}
use Rattle.tk_params.specs.Requested.{SearchIs}
use Rattle.tk_lists.specs.Solution.{Solution, as_solution, solution_texts}
use Rattle.tk_lists.specs.declared.texts.SolText.{SolText}
use Rattle.tk_words.specs.declared.sources.source.Source as sources
use Rattle.tk_routes.specs.Instance.{Instance}
use Rattle.tk_routes.specs.RouteVerdicts.{IsRouteVerdict, filled_of}
use Rattle.tk_routes.specs.Routes.{AreRoutes}
use Rattle.tk_routes.specs.declared.checking.verdict.RouteVerdict.{RouteVerdict}
use Rattle.tk_routes.specs.declared.checking.verdict.RouteVerdict.TheVariants.{Valid, BadCustomer, ServedTwice}
use Rattle.tk_routes.specs.declared.checking.verdict.RouteVerdict.TheVariants.{OverCapacity, NotServed, WrongCost}
use Rattle.tk_route_search.specs.Events.{Event, Begun}
use Rattle.tk_route_search.specs.SolvedRoutes.{AreSolved, AreSound}
use Rattle.tk_route_search.specs.Tasks.{Begins, AtLadder, At, RouteTask}
use Rattle.tk_route_search.specs.declared.routes.SolvedRoutes.{SolvedRoutes}
use Rattle.tk_engines.specs.Engine.{Reading, ReadsGiven, Task}
use Rattle.tk_engines.specs.Engine.{written_as}
use Rattle.tk_engines.specs.ReadProblems.{instance_in}
use Rattle.tk_engines.specs.RouteCheck.{without_routing}
use Rattle.tk_engines.specs.Solve.{Files, files_with}
use Rattle.tk_outcomes.specs.declared.search.SearchOutcome.{SearchOutcome}
use Rattle.tk_outcomes.specs.declared.search.SearchOutcome.TheVariants.{Between}
use Rattle.tk_engines.specs.declared.fault.Fault.{Fault}
use Rattle.tk_engines.specs.declared.fault.Fault.TheVariants.{InitialRoutes, NoMemory}
use Rattle.tk_engines.specs.declared.fault.Fault.TheVariants.{Solution as InSolution}
use Rattle.tk_engines.specs.declared.route_fault.RouteFault.{RouteFault}
use Rattle.tk_engines.specs.declared.route_fault.RouteFault.TheVariants as faults

-- ---- input

-- the routes and the cost of the initial solution, if there is one
abbrev pub solution_in : Option SolText → Option Solution
solution_in start = option_map as_solution start

-- the initial solution is read if the runs begin with one; otherwise its source is not read
abbrev pub ReadsStart : {S : Type 0} → Bool → sources.Ghosts S → S → S → Reading (Option Solution)
ReadsStart = ReadsGiven solution_texts InSolution

-- the fault of routes with this verdict; None if they are valid
abbrev pub route_fault : RouteVerdict → Option RouteFault
route_fault (Valid routes cost) = None
route_fault (BadCustomer route number) = Some (faults.BadCustomer route number)
route_fault (ServedTwice customer) = Some (faults.ServedTwice customer)
route_fault (OverCapacity route load) = Some (faults.OverCapacity route load)
route_fault (NotServed customer) = Some (faults.NotServed customer)
route_fault (WrongCost read counted) = Some (faults.WrongCost read counted)

-- the routes with a customer are valid
abbrev pub AreGivenRoutes : Instance → Solution → Type 0
AreGivenRoutes i solution = AreRoutes i (filled_of solution.0)

-- the initial solution has this fault as routes of the instance, or none
abbrev pub IsStartFault : Instance → Option Solution → Option Fault → Type 0
IsStartFault i None fault = fault ≡ None
IsStartFault i (Some solution) fault =
    (v : RouteVerdict) × (IsRouteVerdict i solution.0 solution.1 v × (fault ≡ option_map InitialRoutes (route_fault v)))

-- the initial solution is rejected with this fault, or memory ran out while it was checked
abbrev pub IsStartRefused : Instance → Option Solution → Fault → Type 0
IsStartRefused i start (InitialRoutes f) = IsStartFault i start (Some (InitialRoutes f))
IsStartRefused i start NoMemory = Unit {0}
IsStartRefused i start _ = ⊥

-- ---- the search

-- each run begins with the routes of the initial solution, or with savings routes
abbrev pub start_of : Option Solution → Begins
start_of None = AtLadder
start_of (Some solution) = At solution.0

-- the search for routes of an instance; ten trials for each node, unless the settings state their number. The
-- construction has no effect
abbrev pub route_task : SearchIs → Instance → Option Solution → RouteTask
route_task s i start =
    record {
      instance = i;
      start = start_of start;
      runs = s.runs;
      trials = unwrap_or s.max_trials (10 * i.size);
      seed = s.seed;
      candidates = s.max_candidates;
      or_segment = s.or_segment;
      sweep = s.final_sweep;
    }

-- the best routes of the runs, with their cost, and a report of each run; the name of the problem, followed by the
-- events of the runs, satisfies Watched
pub record AreFound (s : SearchIs) (Watched : List Event → Type 0) (name : List ℕ) (i : Instance)
    (start : Option Solution) (solved : SolvedRoutes) : Type 0 where
  pub are : AreSolved (route_task s i start) (λ shown. Watched (Begun name ∷ shown)) solved
  pub sound : AreSound (route_task s i start) solved

abbrev pub IsFoundBetween : SearchIs → (List Event → Type 0) → ProblemIs → Option Solution → SearchOutcome → Type 0
IsFoundBetween s Watched problem start (Between found) =
    IsSomeAnd problem.routing (λ r. AreFound s Watched problem.name (instance_in problem r) start found.solved)
IsFoundBetween s Watched problem start _ = ⊥

-- the task of a search with these settings, whose events satisfy Watched
abbrev pub between_task : SearchIs → (List Event → Type 0) → Task (Option Solution) SearchOutcome (Unit {0})
between_task s Watched = record {
  misfit = without_routing;
  IsClash = λ problem start fault. IsSomeAnd problem.routing (λ r. IsStartFault (instance_in problem r) start fault);
  takes_memory = true;
  Gives = λ problem start outcome _. IsFoundBetween s Watched problem start outcome;
}

-- ---- output

-- the task of a search whose outcome is written
abbrev pub between_files_task : SearchIs → (List Event → Type 0) → Task (Option Solution) (Unit {0}) Files
between_files_task s Watched = written_as (between_task s Watched) (λ _. tt) (files_with [])
