-- The output of a search for a tour, or for routes that are improved each by itself, for texts in memory.
use Rattle.std.specs.Prelude.{◌≡◌, ℕ, Bool, List, Option, Ok, Err, is_some}
use Rattle.tk_text.specs.Problem.{ProblemIs}
use Rattle.tk_text.specs.Tour.{tour_texts}
use Rattle.tk_engines.specs.Engine.{Task}
use Rattle.tk_engines.specs.Requested.{ParamsAre}
use Rattle.tk_engines.specs.Params.{params_answer, params_texts}
use Rattle.tk_params.specs.declared.fault.ParamFault.{ParamFault}
use Rattle.tk_solve.specs.Events.{Event}
use Rattle.tk_solve.specs.Watching.{IsUnobserved, WereShown}
use Rattle.tk_solve.specs.declared.watch.NoObserver.{NoObserver}
use Rattle.tk_engines.specs.Solve.{Files, IsInitial, misfit_of, settings_task, solve_task, start_misfit}
use Rattle.tk_engines.specs.declared.fault.Fault.{Fault}
use Rattle.tk_for_c.specs.Answers.{IsStop, NoFault}
use Rattle.tk_for_c.specs.Outcomes.{param_number, refused}
use Rattle.tk_for_c.specs.Searches.{IsOutputOf, IsSearchRefused, IsStartClash, IsStartFault, settings_of}
use Rattle.tk_for_c.specs.Texts.{HasFault}
use Rattle.tk_for_c.specs.declared.answer.Answer.{Answer}
use Rattle.tk_for_c.specs.declared.search.SearchOptions.{SearchOptions}

-- ---- any search

-- the output of a search for a problem and an initial tour. The observer of the search does nothing
abbrev pub IsSolvedBy : ((List Event → Type 0) → Task (Option (List ℕ)) (Unit {0}) Files) → Bool → List ℕ → List ℕ →
    Files → Type 0
IsSolvedBy task given problem initial files =
    (before : NoObserver) × (after : NoObserver)
    × IsOutputOf tour_texts (task (WereShown IsUnobserved before after)) given problem initial files

-- why a search was stopped
abbrev pub IsSolveStop : (ProblemIs → Option Fault) → Bool → List ℕ → List ℕ → Fault → Type 0
IsSolveStop misfit given problem initial f =
    IsStop misfit (IsStartClash tour_texts IsInitial given initial) (IsStartFault tour_texts given initial) NoFault
    problem f

-- ---- a search with parameters

-- the parameters have this fault; nothing is known if memory ran out or reading failed
abbrev pub HasParamFault : List ℕ → ParamFault → Type 0
HasParamFault = HasFault params_texts

-- the parameters have the fault that the answer reports
pub record AreParamsRefused (parameters : List ℕ) (answer : Answer) : Type 0 where
  pub fault : ParamFault
  pub reported : answer ≡ refused 1 fault.line (param_number fault.kind) answer.needed
  pub is : params_answer parameters ≡ Err fault

-- the output of a search with the parameters of a text
pub record IsSolvedOf (parameters problem initial : List ℕ) (files : Files) : Type 0 where
  pub p : ParamsAre
  pub are : params_answer parameters ≡ Ok p
  pub solved : IsSolvedBy (solve_task p) (is_some p.initial_tour_file) problem initial files

-- the answer reports correctly why there was no search with the parameters of a text
abbrev pub IsSolveRefused : List ℕ → List ℕ → List ℕ → Answer → Type 0
IsSolveRefused parameters problem initial answer =
    (p : ParamsAre) × (params_answer parameters ≡ Ok p)
    × IsSearchRefused tour_texts (misfit_of p) IsInitial (is_some p.initial_tour_file) 2 problem initial answer

-- ---- a search with options

-- the output of a search with options
abbrev pub IsSearchedOf : SearchOptions → List ℕ → List ℕ → Files → Type 0
IsSearchedOf o = IsSolvedBy (settings_task o.from_tour (settings_of o)) o.from_tour

-- the answer reports correctly why there was no search with options
abbrev pub IsOptionsRefused : SearchOptions → List ℕ → List ℕ → Answer → Type 0
IsOptionsRefused o = IsSearchRefused tour_texts (start_misfit o.from_tour) IsInitial o.from_tour 1
