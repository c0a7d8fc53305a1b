-- The result of a check of routes.
use Rattle.std.specs.Prelude.{ℕ, true, List, Option, Some, None, IsSomeAnd, if◌then◌else◌, is_none, Result}
use Rattle.tk_problem_text.specs.Problem.{ProblemIs}
use Rattle.tk_lists.specs.Solution.{Solution}
use Rattle.tk_words.specs.declared.sources.source.Source as sources
use Rattle.tk_writers.specs.Puts.{Writes}
use Rattle.tk_writers.specs.declared.output.sink.Sink as sinks
use Rattle.tk_routes.specs.RouteVerdicts.{IsRouteVerdict}
use Rattle.tk_routes.specs.declared.checking.verdict.RouteVerdict.{RouteVerdict}
use Rattle.tk_outcomes.specs.Lines.RouteLine.{route_verdict_line}
use Rattle.tk_engines.specs.Engine.{Ends, NoClash, ReadsProblem, ReadsSolution, Task, WritesNothing, written_as}
use Rattle.tk_engines.specs.ReadProblems.{instance_in}
use Rattle.tk_engines.specs.declared.fault.Fault.{Fault}
use Rattle.tk_engines.specs.declared.fault.Fault.TheVariants.{WrongType}

-- a problem without a routing does not fit
abbrev pub without_routing : ProblemIs → Option Fault
without_routing p = if is_none p.routing then Some WrongType else None

-- the task of checking routes, which any problem with a routing fits: the verdict on the routes and their cost
abbrev pub route_outcome_task : Task Solution RouteVerdict (Unit {0})
route_outcome_task = record {
  misfit = without_routing;
  IsClash = NoClash;
  takes_memory = true;
  Gives = λ problem solution verdict _. IsSomeAnd problem.routing
      (λ r. IsRouteVerdict (instance_in problem r) solution.0 solution.1 verdict);
}

-- how a check of routes ends without output, given its two sources before and after it
abbrev pub FindsRouteOutcome : {P S : Type 0} → sources.Ghosts P → sources.Ghosts S → P × S → P × S →
    Result RouteVerdict Fault → Type 0
FindsRouteOutcome problems solutions (problem, solution) (problem', solution') =
    Ends route_outcome_task (ReadsProblem problems problem problem') (ReadsSolution solutions solution solution')
    WritesNothing

-- the task of checking routes: the verdict is returned, and its line is written
abbrev pub route_check_task : Task Solution RouteVerdict (List ℕ)
route_check_task = written_as route_outcome_task (λ verdict. verdict) route_verdict_line

-- how a check of routes ends, given its two sources and its sink before and after it
abbrev pub ChecksRoutes : {P S W : Type 0} → sources.Ghosts P → sources.Ghosts S → sinks.Ghosts W → P × S × W →
    P × S × W → Result RouteVerdict Fault → Type 0
ChecksRoutes problems solutions outs (problem, solution, out) (problem', solution', out') =
    Ends route_check_task (ReadsProblem problems problem problem') (ReadsSolution solutions solution solution')
    (Writes outs out out')
