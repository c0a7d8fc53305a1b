-- The input, the search and the output of `solve`.
--     search_task misfit s Watched      the task of a search with these settings, whose events satisfy Watched
--     solve_task p Watched      like search_task, with the output, for these parameters
--     settings_task given s Watched      likewise, for these settings, from an initial tour if one is given
--     ReadsInitial given      the initial tour is read if one is given
--     WritesFiles      `file` is written before `out`
--     AreUntouched      neither of them has taken a byte
--     HasFailed      a write to one of them failed
use Rattle.std.specs.Prelude.{◌≡◌, ℕ, ◌⊎◌, Bool, true, List, [], ◌∷◌, Option, Some, None, IsSomeAnd}
use Rattle.std.specs.Prelude.{Ok, Err, is_none, is_some, option_map, unwrap_or, if◌then◌else◌}
use Rattle.std.specs.Int.RustNames.{unsigned_abs}
use Rattle.tk_problem_text.specs.Problem.{ProblemIs}
use Rattle.tk_writers.specs.Puts.{Writes}
use Rattle.tk_writers.specs.SolutionWritten.{solution_text}
use Rattle.tk_writers.specs.TourWritten.{tour_text}
use Rattle.tk_lists.specs.Solution.{lists_of}
use Rattle.tk_lists.specs.Tour.{tour_texts}
use Rattle.tk_lists.specs.declared.texts.TourText.{TourText}
use Rattle.tk_words.specs.declared.sources.source.Source as sources
use Rattle.tk_writers.specs.declared.output.sink.Sink as sinks
use Rattle.tk_tour.specs.Verdict.{IsVerdict}
use Rattle.tk_tour.specs.declared.fault.TourFault.TheVariants as tours
use Rattle.tk_tour.specs.declared.verdict.Verdict.{Verdict}
use Rattle.tk_tour.specs.declared.verdict.Verdict.TheVariants.{Tour, WrongCount, OutOfRange, RepeatedCity}
use Rattle.tk_params.specs.Requested.{ParamsAre, SearchIs}
use Rattle.tk_params.specs.declared.key.Key.{Key}
use Rattle.tk_params.specs.declared.key.Key.TheVariants as keys
use Rattle.tk_params.specs.declared.value.Construction.{Construction}
use Rattle.tk_params.specs.declared.value.Construction.TheVariants.{Nearest, Savings}
use Rattle.tk_routes.specs.Instance.{Instance}
use Rattle.tk_solve.specs.SolvedRoutes.{AreSolved}
use Rattle.tk_solve.specs.SolvedTours.{IsSolved, IsSound}
use Rattle.tk_solve.specs.Starts.{Begins, AtNearest, AtSavings, At, TourTask}
use Rattle.tk_solve.specs.Events.{Event, Begun}
use Rattle.tk_engines.specs.ReadProblems.{read_distance}
use Rattle.tk_engines.specs.Engine.{IsUnwritten, Reading, ReadsGiven, Task}
use Rattle.tk_engines.specs.Engine.{Writing, written_as}
use Rattle.tk_engines.specs.ReadProblems.{instance_in}
use Rattle.tk_outcomes.specs.Lines.SolveLines.{search_lines}
use Rattle.tk_outcomes.specs.declared.search.FoundRoutes.{FoundRoutes}
use Rattle.tk_outcomes.specs.declared.search.FoundTour.{FoundTour}
use Rattle.tk_outcomes.specs.declared.search.SearchOutcome.{SearchOutcome}
use Rattle.tk_outcomes.specs.declared.search.SearchOutcome.TheVariants.{Between, Routes}
use Rattle.tk_outcomes.specs.declared.search.SearchOutcome.TheVariants.{Tour as Found}
use Rattle.tk_engines.specs.declared.fault.Fault.{Fault}
use Rattle.tk_engines.specs.declared.fault.Fault.TheVariants.{Initial, NoMemory, NotForType, Write}
use Rattle.tk_engines.specs.declared.fault.Fault.TheVariants.{Tour as InTour}

-- ---- input

-- the first key that does not apply to a problem of this type: no tour is read or written for a CVRP, and no solution
-- is written for a TSP
abbrev pub unfit_key : ParamsAre → ProblemIs → Option Key
unfit_key p problem =
    if is_none problem.routing then (if is_some p.solution_file then Some keys.SolutionFile else None)
    else (if is_some p.tour_file then Some keys.TourFile
    else (if is_some p.initial_tour_file then Some keys.InitialTourFile else None))

-- why a problem does not fit these parameters
abbrev pub misfit_of : ParamsAre → ProblemIs → Option Fault
misfit_of p problem = option_map NotForType (unfit_key p problem)

-- why a problem does not fit a search without keys: an initial tour is given, but the problem is a CVRP
abbrev pub start_misfit : Bool → ProblemIs → Option Fault
start_misfit given problem =
    if given then (if is_none problem.routing then None else Some (NotForType keys.InitialTourFile)) else None

-- the cities of the initial tour, if there is one
abbrev pub cities_in : Option TourText → Option (List ℕ)
cities_in tour = option_map (λ t. t.cities.items) tour

-- the initial tour is read if one is given; otherwise its source is not read
abbrev pub ReadsInitial : {S : Type 0} → Bool → sources.Ghosts S → S → S → Reading (Option (List ℕ))
ReadsInitial = ReadsGiven tour_texts InTour

-- the fault of an initial tour with this verdict; None if it is a tour
abbrev pub initial_fault : Verdict → Option Fault
initial_fault Tour = None
initial_fault WrongCount = Some (Initial tours.WrongCount)
initial_fault (OutOfRange place) = Some (Initial (tours.OutOfRange place))
initial_fault (RepeatedCity place) = Some (Initial (tours.RepeatedCity place))

-- the initial tour has this fault as a tour of the problem's cities, or none
abbrev pub IsInitial : ProblemIs → Option (List ℕ) → Option Fault → Type 0
IsInitial problem None fault = fault ≡ None
IsInitial problem (Some cities) fault = (v : Verdict) × (IsVerdict problem.n cities v × (fault ≡ initial_fault v))

-- P is true if `solve` stopped before its search
abbrev pub BeforeSearch : Type 0 → Fault → Type 0
BeforeSearch P (Write f) = Unit {0}
BeforeSearch P NoMemory = Unit {0}
BeforeSearch P _ = P

-- ---- the search

abbrev pub construction_begins : Construction → Begins
construction_begins Nearest = AtNearest
construction_begins Savings = AtSavings

-- the start of each run: the tour that was read, or a constructed one
abbrev pub begins_with : SearchIs → Option (List ℕ) → Begins
begins_with s None = construction_begins s.construction
begins_with s (Some cities) = At cities

-- the search for a tour of the problem's cities
abbrev pub tour_task : SearchIs → ProblemIs → Option (List ℕ) → TourTask
tour_task s problem initial =
    record {
      size = problem.n;
      distance = read_distance problem.weights;
      start = begins_with s initial;
      runs = s.runs;
      trials = unwrap_or s.max_trials problem.n;
      seed = s.seed;
      candidates = s.max_candidates;
      rules = record { sweep = s.final_sweep; or_segment = s.or_segment };
    }

-- ---- the outcome

-- for a TSP: the best tour of the runs, with its length, and a report of each run; the name of the problem, followed by
-- the events of the runs, satisfies Watched
pub record IsTourFound (s : SearchIs) (Watched : List Event → Type 0) (problem : ProblemIs)
    (initial : Option (List ℕ)) (found : FoundTour) : Type 0 where
  pub name : found.name.items ≡ problem.name
  pub is : IsSolved (tour_task s problem initial) (λ shown. Watched (Begun problem.name ∷ shown)) found.solved
  pub sound : IsSound (tour_task s problem initial) found.solved

-- for a CVRP: the improved routes, with their cost, and the report of the improvement
abbrev pub AreRoutesFound : SearchIs → Instance → FoundRoutes → Type 0
AreRoutesFound s i found = AreSolved i s.max_candidates s.or_segment (lists_of found.routes.items) found.report

-- an observer is shown a search for a tour, but nothing of a search for routes
abbrev pub IsFound : SearchIs → (List Event → Type 0) → ProblemIs → Option (List ℕ) → SearchOutcome → Type 0
IsFound s Watched problem initial (Found found) =
    (problem.routing ≡ None) × IsTourFound s Watched problem initial found
IsFound s Watched problem initial (Routes found) =
    IsSomeAnd problem.routing (λ r. AreRoutesFound s (instance_in problem r) found) × Watched []
IsFound s Watched problem initial (Between found) = ⊥

-- the task of a search with these settings, whose events satisfy Watched
abbrev pub search_task : (ProblemIs → Option Fault) → SearchIs → (List Event → Type 0) →
    Task (Option (List ℕ)) SearchOutcome (Unit {0})
search_task misfit s Watched = record {
  misfit = misfit;
  IsClash = IsInitial;
  takes_memory = true;
  Gives = λ problem initial outcome _. IsFound s Watched problem initial outcome;
}

-- ---- output

-- the text of the tour or of the solution
abbrev pub found_text : SearchOutcome → List ℕ
found_text (Found found) = tour_text found.name.items (unsigned_abs found.solved.length) found.solved.cities.items
found_text (Routes found) = solution_text (lists_of found.routes.items) (unsigned_abs found.report.after)
found_text (Between found) = solution_text (lists_of found.solved.routes.items) (unsigned_abs found.solved.cost)

-- the text of the tour or of the solution, and the lines on it
pub record Files : Type 0 where
  pub file : List ℕ
  pub out : List ℕ

abbrev pub files_with : List Key → SearchOutcome → Files
files_with ignored outcome = record { file = found_text outcome; out = search_lines ignored outcome }

-- the task of a search whose outcome is written
abbrev pub solve_task : ParamsAre → (List Event → Type 0) → Task (Option (List ℕ)) (Unit {0}) Files
solve_task p Watched = written_as (search_task (misfit_of p) p.search Watched) (λ _. tt) (files_with p.ignored)

abbrev pub settings_task : Bool → SearchIs → (List Event → Type 0) → Task (Option (List ℕ)) (Unit {0}) Files
settings_task given s Watched = written_as (search_task (start_misfit given) s Watched) (λ _. tt) (files_with [])

-- the two sinks of the files
module _ {F W : Type 0} (files : sinks.Ghosts F) (outs : sinks.Ghosts W) (file file' : F) (out out' : W) where
  -- `file` is written before `out`: if writing `file` breaks off, `out` has taken no byte
  abbrev pub WritesFiles : Writing Files
  WritesFiles (Ok _) texts = Writes files file file' (Ok tt) texts.file × Writes outs out out' (Ok tt) texts.out
  WritesFiles (Err f) texts =
      (Writes files file file' (Err f) texts.file × IsUnwritten outs out out')
      ⊎ (Writes files file file' (Ok tt) texts.file × Writes outs out out' (Err f) texts.out)

  -- neither has taken a byte
  abbrev pub AreUntouched : Type 0
  AreUntouched = IsUnwritten files file file' × IsUnwritten outs out out'

-- a write to one of two sinks failed
abbrev pub HasFailed : Bool → Bool → Type 0
HasFailed file out = (file ≡ true) ⊎ (out ≡ true)

-- the initial tour is rejected with this fault, or memory ran out while it was checked
abbrev pub IsInitialRefused : ProblemIs → Option (List ℕ) → Fault → Type 0
IsInitialRefused problem initial (Initial f) = IsInitial problem initial (Some (Initial f))
IsInitialRefused problem initial NoMemory = Unit {0}
IsInitialRefused problem initial _ = ⊥
