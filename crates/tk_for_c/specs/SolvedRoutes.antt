-- The output of a search between routes for texts in memory.
use Rattle.std.specs.Prelude.{ℕ, Bool, false, List, Option, IsSomeAnd}
use Rattle.tk_text.specs.Problem.{ProblemIs}
use Rattle.tk_text.specs.Solution.{Solution, solution_texts}
use Rattle.tk_route_search.specs.Watching.{IsUnobserved, WereShown}
use Rattle.tk_route_search.specs.declared.watch.NoObserver.{NoObserver}
use Rattle.tk_engines.specs.Between.{IsStartFault as HasStartFault, between_files_task}
use Rattle.tk_engines.specs.ReadProblems.{instance_in}
use Rattle.tk_engines.specs.Requested.{SearchIs}
use Rattle.tk_engines.specs.RouteCheck.{without_routing}
use Rattle.tk_engines.specs.Solve.{Files}
use Rattle.tk_engines.specs.declared.fault.Fault.{Fault}
use Rattle.tk_for_c.specs.Answers.{IsStop, NoFault}
use Rattle.tk_for_c.specs.Searches.{IsOutputOf, IsSearchRefused, IsStartClash, IsStartFault, settings_of}
use Rattle.tk_for_c.specs.declared.answer.Answer.{Answer}
use Rattle.tk_for_c.specs.declared.search.SearchOptions.{SearchOptions}
use Rattle.tk_for_c.specs.declared.solve_routes.RouteOptions.{RouteOptions}

-- the same options of a search for a tour
abbrev pub as_search : RouteOptions → SearchOptions
as_search o =
    record {
      runs = o.runs;
      trials = o.trials;
      seed = o.seed;
      candidates = o.candidates;
      or_segment = o.or_segment;
      final_sweep = o.final_sweep;
      savings = false;
      from_tour = o.from_solution;
    }

-- the initial solution has this fault as routes of the problem, or none
abbrev pub IsClashOf : ProblemIs → Option Solution → Option Fault → Type 0
IsClashOf q start fault = IsSomeAnd q.routing (λ r. HasStartFault (instance_in q r) start fault)

-- the output of a search with these settings, for a problem and an initial solution. The observer of the search does
-- nothing
abbrev pub AreSolvedBy : SearchIs → Bool → List ℕ → List ℕ → Files → Type 0
AreSolvedBy s given problem initial files =
    (before : NoObserver) × (after : NoObserver)
    × IsOutputOf solution_texts (between_files_task s (WereShown IsUnobserved before after)) given
    problem initial files

-- likewise, with options
abbrev pub AreSolvedOf : RouteOptions → List ℕ → List ℕ → Files → Type 0
AreSolvedOf o = AreSolvedBy (settings_of (as_search o)) o.from_solution

-- why a search between routes was stopped
abbrev pub IsBetweenStop : Bool → List ℕ → List ℕ → Fault → Type 0
IsBetweenStop given problem initial f =
    IsStop without_routing (IsStartClash solution_texts IsClashOf given initial) NoFault
    (IsStartFault solution_texts given initial) problem f

-- the answer reports correctly why there was no search: the problem text or the initial solution has a fault, or the
-- problem has no routing
abbrev pub IsRoutesRefused : RouteOptions → List ℕ → List ℕ → Answer → Type 0
IsRoutesRefused o = IsSearchRefused solution_texts without_routing IsClashOf o.from_solution 1
