-- How a search between routes ends, by how its parts end.
use Rattle.std.proofs.Common.{◌≡◌, ℕ, ◌≤◌, List, [], ◌∷◌, Bool, true, false, Option, Some, None, Result, Ok, Err, IfOk}
use Rattle.std.proofs.Common.{length, nat_lt, refl, ap, ◌∙◌, subst, sym, arith}
use Rattle.std.specs.Prelude.{MatchOption, if◌then◌else◌}
use Rattle.std.specs.Result.{IsErrAnd}
use Rattle.std.proofs.lemmas.List.{length-map}
use Rattle.tk_problem.specs.declared.problem.Problem.{Problem}
use Rattle.tk_problem_text.specs.ProblemOf.{problem_is}
use Rattle.tk_params.specs.Requested.{SearchIs}
use Rattle.tk_lists.specs.Solution.{Solution}
use Rattle.tk_routes.specs.Instance.{Instance, IsInstanceOf, customer_count}
use Rattle.tk_routes.specs.RouteVerdicts.{filled_of}
use Rattle.tk_routes.specs.Routes.{AreRoutes}
use Rattle.tk_solve.proofs.Endings.{ends_within}
use Rattle.tk_route_search.specs.Events.{Event, Asked, Begun}
use Rattle.tk_route_search.specs.Runs.{Run, report_of}
use Rattle.tk_route_search.specs.SolvedRoutes.{AreSolved, AreSound}
use Rattle.tk_route_search.specs.Tasks.{AreGiven, Begins, At, AtLadder, RouteTask, begins_of}
use Rattle.tk_route_search.specs.declared.options.RouteStart.{RouteStart}
use Rattle.tk_route_search.specs.declared.options.RouteStart.TheVariants.{Ladder, Routes}
use Rattle.tk_route_search.specs.declared.routes.SolvedRoutes.{SolvedRoutes}
use Rattle.tk_engines.specs.Between.{AreFound, AreGivenRoutes, IsStartFault, IsStartRefused, between_task, route_task}
use Rattle.tk_engines.specs.Between.{start_of}
use Rattle.tk_engines.specs.Engine.{AreRead, Ends, HasRead, WritesNothing}
use Rattle.tk_outcomes.specs.declared.search.FoundBetween.{FoundBetween}
use Rattle.tk_outcomes.specs.declared.search.SearchOutcome.{SearchOutcome}
use Rattle.tk_outcomes.specs.declared.search.SearchOutcome.TheVariants.{Between}
use Rattle.tk_engines.specs.declared.fault.Fault.{Fault}
use Rattle.tk_engines.specs.declared.fault.Fault.TheVariants as faults
use Rattle.tk_engines.proofs.ReadTables.{some_instance_read}
use Rattle.tk_engines.proofs.RouteChecks.{routing_fits}

-- how a search ends once its texts are read
module _ (s : SearchIs) (Watched : List Event → Type 0) (p : Problem) (i : Instance) (is : IsInstanceOf p i)
    (start : Option Solution) where
  read : AreRead (between_task s Watched) (HasRead (problem_is p)) (HasRead start) (problem_is p) start
  read = record { is_problem = refl; fits = routing_fits p i is; is_second = refl }

  -- the initial solution was refused
  start_stopped : (f : Fault) → IsStartRefused i start f →
      Ends (between_task s Watched) (HasRead (problem_is p)) (HasRead start) WritesNothing (Err f)
  start_stopped (faults.InitialRoutes f) h =
      let Clashes : Instance → Type 0 = λ j. IsStartFault j start (Some (faults.InitialRoutes f)) in
      (problem_is p, start, read, some_instance_read p i Clashes is h)
  start_stopped faults.NoMemory h = (problem_is p, start, read, refl)
  start_stopped _ h = elim h [ ]

  -- and the fault was passed on
  pub start_failed : (f : Fault) (r : Result SearchOutcome Fault) → IsErrAnd r (λ e. e ≡ f) →
      IsStartRefused i start f →
      Ends (between_task s Watched) (HasRead (problem_is p)) (HasRead start) WritesNothing r
  start_failed f (Err e) passed h =
      subst
      (λ v. Ends (between_task s Watched) (HasRead (problem_is p)) (HasRead start) WritesNothing (Err v)) (sym passed)
      (start_stopped f h)
  start_failed f (Ok v) passed h = elim passed [ ]

  -- memory ran out
  pub memory_ended :
      Ends (between_task s Watched) (HasRead (problem_is p)) (HasRead start) WritesNothing (Err faults.NoMemory)
  memory_ended = (problem_is p, start, read, refl)

  -- the search was made
  pub found_ends : (found : FoundBetween) → IsStartFault i start None →
      AreFound s Watched (problem_is p).name i start found.solved →
      Ends (between_task s Watched) (HasRead (problem_is p)) (HasRead start) WritesNothing (Ok (Between found))
  found_ends found together is_found =
      record {
        problem = problem_is p;
        second = start;
        text = tt;
        read = read;
        together = some_instance_read p i (λ j. IsStartFault j start None) is together;
        gives = some_instance_read p i (λ j. AreFound s Watched (problem_is p).name j start found.solved) is is_found;
        written = tt;
      }

-- the routes of the runs' start
abbrev routes_at : Begins → List (List ℕ)
routes_at AtLadder = []
routes_at (At routes) = routes

-- the routes that a search begins with are valid
pub start_given : (i : Instance) (s : RouteStart) (start : Option Solution) → begins_of s ≡ start_of start →
    MatchOption start (Unit {0}) (AreGivenRoutes i) → AreGiven i s
start_given i Ladder start is valid = tt
start_given i (Routes given) None is valid = cc is
start_given i (Routes given) (Some solution) is valid =
    subst (λ routes. AreRoutes i (filled_of routes)) (sym (ap routes_at is)) valid

-- what was found and watched of a search, as a part of what was watched
pub IfOk-found : {E : Type 0} (r : Result SolvedRoutes E) (o : SearchIs) (name : List ℕ) (i : Instance)
    (start : Option Solution) (task : RouteTask) (Watched All : List Event → Type 0) → task ≡ route_task o i start →
    ((shown : List Event) → Watched shown → All (Begun name ∷ shown)) →
    IfOk r (AreSolved task Watched) → IfOk r (AreSound task) → IfOk r (AreFound o All name i start)
IfOk-found (Ok s) o name i start task Watched All is more h sound =
    let are : AreSolved task (λ shown. All (Begun name ∷ shown)) s = record {
      start = h.start;
      begins = h.begins;
      near = h.near;
      candidates = h.candidates;
      runs = h.runs;
      are = h.are;
      stop = h.stop;
      ends = h.ends;
      reports = h.reports;
      winner = h.winner;
      first = h.first;
      read = h.read;
      cost = h.cost;
      start_cost = h.start_cost;
      start_count = h.start_count;
      watched = more _ h.watched;
      shown = h.shown;
      bounded = h.bounded;
    } in
    record {
      are = subst (λ t. AreSolved t (λ shown. All (Begun name ∷ shown)) s) is are;
      sound = subst (λ t. AreSound t s) is sound;
    }
IfOk-found (Err e) o name i start task Watched All is more h sound = tt

at_most : (none : Bool) (n : ℕ) → (if none then 0 else n) ≤ n
at_most true n = omega arith
at_most false n = omega arith

-- no more reports than runs
pub few_reports : (o : SearchIs) (Watched : List Event → Type 0) (name : List ℕ) (i : Instance)
    (start : Option Solution) (solved : SolvedRoutes) → o.runs ≤ 10000 → AreFound o Watched name i start solved →
    length solved.runs.items ≤ 10000
few_reports o Watched name i start solved few found =
    let are = found.are in
    let count = ap length are.reports
    ∙ length-map are.runs (λ (run : Run). report_of (customer_count i) run.ended) in
    let within = ends_within Asked are.ends in
    omega (arith, count, within, at_most (nat_lt (customer_count i) 2) o.runs, few)
