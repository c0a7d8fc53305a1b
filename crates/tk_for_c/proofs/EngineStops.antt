-- Why an engine on texts in memory stopped.
use Rattle.std.proofs.Common.{◌≡◌, ℕ, List, Option, None, Some, Ok, Err, sym, subst}
use Rattle.tk_text.specs.Problem.{ProblemIs, problem_texts}
use Rattle.tk_text.specs.Solution.{solution_texts}
use Rattle.tk_text.specs.Texts.{Texts}
use Rattle.tk_text.specs.Tour.{tour_texts}
use Rattle.tk_words.specs.declared.fault.TextFault.{TextFault}
use Rattle.tk_words.specs.declared.sources.source.Source as sources
use Rattle.tk_engines.specs.Engine.{EndsByProblem, Reading, Reads, ReadsProblem, ReadsSolution, ReadsTour, Task}
use Rattle.tk_engines.specs.Engine.{Writing}
use Rattle.tk_engines.specs.declared.fault.Fault.{Fault}
use Rattle.tk_engines.specs.declared.fault.Fault.TheVariants as faults
use Rattle.tk_for_c.proofs.TextsSaid.{has_fault, says}
use Rattle.tk_for_c.specs.Answers.{IsStop}
use Rattle.tk_for_c.specs.Texts.{HasFault, TextSays}

-- the problem fits, and the tour text or the solution text was rejected
module _ {S : Type 0} (misfit : ProblemIs → Option Fault) (Clash : ProblemIs → Fault → Type 0)
    (Tour Solution : ProblemIs → TextFault → Type 0) (problem : List ℕ) (p : ProblemIs)
    (said : TextSays problem_texts problem p) (fits : misfit p ≡ None) (source : sources.Ghosts S)
    (old new : S) (text : List ℕ) (e : source.left old ≡ Some text) (v : Fault) where
  second_stop : {V : Type 0} (texts : Texts V TextFault) (wrap : TextFault → Fault)
      → ((f : TextFault) → HasFault texts text f → IsStop misfit Clash Tour Solution problem (wrap f))
      → Reads texts wrap source old new (Err v) → IsStop misfit Clash Tour Solution problem v
  second_stop texts wrap stop h =
      subst (IsStop misfit Clash Tour Solution problem) (sym h.1)
      (stop h.0 (has_fault texts text source old new h.0 e h.2))

  pub tour_stop : ((f : TextFault) → HasFault tour_texts text f → Tour p f) → ReadsTour source old new (Err v) →
      IsStop misfit Clash Tour Solution problem v
  tour_stop wrap = second_stop tour_texts faults.Tour
      (λ f has. record { p = p; is_problem = said; fits = fits; fact = wrap f has })

  pub solution_stop : ((f : TextFault) → HasFault solution_texts text f → Solution p f) →
      ReadsSolution source old new (Err v) → IsStop misfit Clash Tour Solution problem v
  solution_stop wrap = second_stop solution_texts faults.Solution
      (λ f has. record { p = p; is_problem = said; fits = fits; fact = wrap f has })

module _ {S B R T : Type 0} (task : Task B R T) (Clash : ProblemIs → Fault → Type 0)
    (Tour Solution : ProblemIs → TextFault → Type 0) (source : sources.Ghosts S) (old new : S)
    (problem : List ℕ) (e : source.left old ≡ Some problem)
    (Second : ProblemIs → Reading B) (Writes : Writing T)
    (seconds : (p : ProblemIs) (v : Fault) → TextSays problem_texts problem p → task.misfit p ≡ None →
    Second p (Err v) →
    IsStop task.misfit Clash Tour Solution problem v)
    (clashes : (p : ProblemIs) (b : B) (f : Fault) → Second p (Ok b) → task.IsClash p b (Some f) → Clash p f) where
  pub stop_of : (v : Fault) → EndsByProblem task (ReadsProblem source old new) Second Writes (Err v) →
      IsStop task.misfit Clash Tour Solution problem v
  stop_of (faults.Problem g) h =
      subst (IsStop task.misfit Clash Tour Solution problem) (sym h.1)
      (has_fault problem_texts problem source old new h.0 e h.2)
  stop_of (faults.Initial g) h = record {
    p = h.0;
    is_problem = says problem_texts source old new problem h.0 e h.2.is_problem;
    fits = h.2.fits;
    fact = clashes h.0 h.1 (faults.Initial g) h.2.is_second h.3;
  }
  stop_of (faults.InitialRoutes g) h = record {
    p = h.0;
    is_problem = says problem_texts source old new problem h.0 e h.2.is_problem;
    fits = h.2.fits;
    fact = clashes h.0 h.1 (faults.InitialRoutes g) h.2.is_second h.3;
  }
  stop_of (faults.Write g) h = tt
  stop_of faults.NoMemory h = tt
  stop_of (faults.Tour g) h =
      seconds h.problem (faults.Tour g) (says problem_texts source old new problem h.problem e h.is_problem)
      h.fits h.refused
  stop_of (faults.Solution g) h =
      seconds h.problem (faults.Solution g) (says problem_texts source old new problem h.problem e h.is_problem)
      h.fits h.refused
  stop_of v h = record {
    p = h.problem;
    is_problem = says problem_texts source old new problem h.problem e h.is_problem;
    misfit_is = h.misfit;
  }
