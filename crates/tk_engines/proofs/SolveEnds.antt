-- How a search ends, by how its parts end.
use Rattle.std.proofs.Common.{◌≡◌, List, ℕ, Option, None, Result, Ok, Err, IfOk, refl}
use Rattle.std.specs.Prelude.{IfErr, OnOk}
use Rattle.tk_problem_text.specs.Problem.{ProblemIs}
use Rattle.tk_params.specs.Requested.{SearchIs}
use Rattle.tk_solve.specs.Events.{Event}
use Rattle.tk_solve.specs.SolvedTours.{IsSolved}
use Rattle.tk_solve.specs.Starts.{TourTask}
use Rattle.tk_solve.specs.declared.tour.SolvedTour.{SolvedTour}
use Rattle.tk_engines.specs.Engine.{AreRead, Ends, HasRead, WritesNothing}
use Rattle.tk_engines.specs.Solve.{BeforeSearch, IsFound, IsInitial, IsInitialRefused, search_task}
use Rattle.tk_outcomes.specs.declared.search.SearchOutcome.{SearchOutcome}
use Rattle.tk_engines.specs.declared.fault.Fault.{Fault}
use Rattle.tk_engines.specs.declared.fault.Fault.TheVariants as faults

-- how a search ends once its texts are read
module _ (misfit : ProblemIs → Option Fault) (s : SearchIs) (Watched : List Event → Type 0) (problem : ProblemIs)
    (initial : Option (List ℕ)) (fits : misfit problem ≡ None) where
  read : AreRead (search_task misfit s Watched) (HasRead problem) (HasRead initial) problem initial
  read = record { is_problem = refl; fits = fits; is_second = refl }

  -- the initial tour was refused, or memory ran out
  stopped : (f : Fault) → IsInitialRefused problem initial f →
      Ends (search_task misfit s Watched) (HasRead problem) (HasRead initial) WritesNothing (Err f)
  stopped (faults.Initial f) h = (problem, initial, read, h)
  stopped faults.NoMemory h = (problem, initial, read, refl)
  stopped _ h = elim h [ ]

  -- the search was made, or stopped
  pub searched_ends : (r : Result SearchOutcome Fault) → OnOk r (IsInitial problem initial None) →
      IfOk r (IsFound s Watched problem initial) → IfErr r (IsInitialRefused problem initial) →
      Ends (search_task misfit s Watched) (HasRead problem) (HasRead initial) WritesNothing r
  searched_ends (Ok outcome) together found refused =
      record {
        problem = problem;
        second = initial;
        text = tt;
        read = read;
        together = together;
        gives = found;
        written = tt;
      }
  searched_ends (Err f) together found refused = stopped f refused

-- an observer was shown nothing
unwatched_at : (P : Type 0) → P → (f : Fault) → BeforeSearch P f
unwatched_at P h (faults.Write f) = tt
unwatched_at P h faults.NoMemory = tt
unwatched_at P h _ = h

pub unwatched : (P : Type 0) → P → (r : Result SearchOutcome Fault) → IfErr r (BeforeSearch P)
unwatched P h (Ok outcome) = tt
unwatched P h (Err f) = unwatched_at P h f

-- what was watched of a search, as a part of what was watched
pub IfOk-watched : {E : Type 0} (r : Result SolvedTour E) (task : TourTask) (Watched All : List Event → Type 0) →
    ((shown : List Event) → Watched shown → All shown) →
    IfOk r (IsSolved task Watched) → IfOk r (IsSolved task All)
IfOk-watched (Ok s) task Watched All more h = record {
  near = h.near;
  candidates = h.candidates;
  runs = h.runs;
  are = h.are;
  stop = h.stop;
  ends = h.ends;
  reports = h.reports;
  winner = h.winner;
  first = h.first;
  printed = h.printed;
  length_is = h.length_is;
  watched = more _ h.watched;
}
IfOk-watched (Err e) task Watched All more h = tt
