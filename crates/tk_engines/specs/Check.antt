-- The result of a check of a tour.
use Rattle.std.specs.Prelude.{◌≡◌, ℕ, true, List, None, Result}
use Rattle.tk_problem_text.specs.Problem.{ProblemIs}
use Rattle.tk_words.specs.declared.sources.source.Source as sources
use Rattle.tk_writers.specs.Puts.{Writes}
use Rattle.tk_writers.specs.declared.output.sink.Sink as sinks
use Rattle.tk_tour.specs.Verdict.{IsVerdict}
use Rattle.tk_tour.specs.declared.verdict.Verdict.{Verdict}
use Rattle.tk_outcomes.specs.Lines.TourLine.{outcome_line}
use Rattle.tk_outcomes.specs.TourOutcomes.{outcome_of, verdict_in}
use Rattle.tk_engines.specs.Engine.{Ends, NoClash, ReadsProblem, ReadsTour, Task, WritesNothing, written_as}
use Rattle.tk_engines.specs.ReadProblems.{read_distance}
use Rattle.tk_engines.specs.declared.fault.Fault.{Fault}
use Rattle.tk_outcomes.specs.declared.tour.TourOutcome.{TourOutcome}

-- the outcome for a list as a tour of the problem: the right verdict, with its numbers
pub record IsTourOutcome (problem : ProblemIs) (cities : List ℕ) (outcome : TourOutcome) : Type 0 where
  pub right : IsVerdict problem.n cities (verdict_in outcome)
  pub numbers : outcome ≡ outcome_of problem.n (read_distance problem.weights) cities (verdict_in outcome)

-- the task of checking a tour, which any problem fits
abbrev pub tour_outcome_task : Task (List ℕ) TourOutcome (Unit {0})
tour_outcome_task = record {
  misfit = λ _. None;
  IsClash = NoClash;
  takes_memory = true;
  Gives = λ problem cities outcome _. IsTourOutcome problem cities outcome;
}

-- how a check of a tour ends without output, given its two sources before and after it
abbrev pub FindsTourOutcome : {P T : Type 0} → sources.Ghosts P → sources.Ghosts T → P × T → P × T →
    Result TourOutcome Fault → Type 0
FindsTourOutcome problems tours (problem, tour) (problem', tour') =
    Ends tour_outcome_task (ReadsProblem problems problem problem') (ReadsTour tours tour tour') WritesNothing

-- the task of checking a tour: the verdict is returned, and the line of the outcome is written
abbrev pub check_task : Task (List ℕ) Verdict (List ℕ)
check_task = written_as tour_outcome_task verdict_in outcome_line

-- how a check of a tour ends, given its two sources and its sink before and after it
abbrev pub ChecksTour : {P T W : Type 0} → sources.Ghosts P → sources.Ghosts T → sinks.Ghosts W → P × T × W →
    P × T × W → Result Verdict Fault → Type 0
ChecksTour problems tours outs (problem, tour, out) (problem', tour', out') =
    Ends check_task (ReadsProblem problems problem problem') (ReadsTour tours tour tour') (Writes outs out out')
