-- Why an engine on texts in memory stopped, and correct reports of rejected texts.
use Rattle.std.specs.Prelude.{◌≡◌, ◌+◌, ◌⊎◌, ℕ, List, Option, Some, None, Err}
use Rattle.tk_text.specs.Texts.{Texts, answer_of}
use Rattle.tk_text.specs.Problem.{ProblemIs, problem_texts}
use Rattle.tk_engines.specs.declared.fault.Fault.{Fault}
use Rattle.tk_engines.specs.declared.fault.Fault.TheVariants as faults
use Rattle.tk_words.specs.declared.fault.TextFault.{TextFault}
use Rattle.tk_for_c.specs.Outcomes.{fault_answer, misfit_number, refused, text_number}
use Rattle.tk_for_c.specs.Texts.{HasFault, TextSays}
use Rattle.tk_for_c.specs.declared.answer.Answer.{Answer}

-- the text has the fault that the answer reports
pub record IsFaulty {V : Type 0} (texts : Texts V TextFault) (number : ℕ) (text : List ℕ)
    (answer : Answer) : Type 0 where
  pub fault : TextFault
  pub reported : answer ≡ refused number fault.line (text_number fault.kind) answer.needed
  pub is : answer_of texts text ≡ Err fault

-- the contents of a text do not fit the task, for this reason
pub record IsMisfitIn {V : Type 0} (texts : Texts V TextFault) (misfit : V → Option Fault) (problem : List ℕ)
    (f : Fault) : Type 0 where
  pub p : V
  pub is_problem : TextSays texts problem p
  pub misfit_is : misfit p ≡ Some f

-- any problem fits the task
abbrev pub fits_any : ProblemIs → Option Fault
fits_any p = None

-- the contents of a text fit the task, and Fact is true of them
pub record IsFitIn {V : Type 0} (texts : Texts V TextFault) (misfit : V → Option Fault) (problem : List ℕ)
    (Fact : V → Type 0) : Type 0 where
  pub p : V
  pub is_problem : TextSays texts problem p
  pub fits : misfit p ≡ None
  pub fact : Fact p

-- no second text has a fault
abbrev pub NoFault : ProblemIs → TextFault → Type 0
NoFault p f = ⊥

-- no second text clashes with the problem
abbrev pub NeverClashes : {V : Type 0} → V → Fault → Type 0
NeverClashes p f = ⊥

-- why an engine stopped: the problem text has a fault, as one of these texts; the problem does not fit; or it fits, and
-- the tour text or the solution text has a fault, or what it contains clashes with the problem. Nothing is known if
-- memory ran out or a write failed
abbrev pub IsStopIn : {V : Type 0} → Texts V TextFault → (V → Option Fault) → (V → Fault → Type 0) →
    (V → TextFault → Type 0) → (V → TextFault → Type 0) → List ℕ → Fault → Type 0
IsStopIn texts misfit Clash Tour Solution problem (faults.Problem f) = HasFault texts problem f
IsStopIn texts misfit Clash Tour Solution problem (faults.Tour f) = IsFitIn texts misfit problem (λ p. Tour p f)
IsStopIn texts misfit Clash Tour Solution problem (faults.Solution f) =
    IsFitIn texts misfit problem (λ p. Solution p f)
IsStopIn texts misfit Clash Tour Solution problem (faults.Initial f) =
    IsFitIn texts misfit problem (λ p. Clash p (faults.Initial f))
IsStopIn texts misfit Clash Tour Solution problem (faults.InitialRoutes f) =
    IsFitIn texts misfit problem (λ p. Clash p (faults.InitialRoutes f))
IsStopIn texts misfit Clash Tour Solution problem faults.WrongType =
    IsMisfitIn texts misfit problem faults.WrongType
IsStopIn texts misfit Clash Tour Solution problem (faults.NotForType key) =
    IsMisfitIn texts misfit problem (faults.NotForType key)
IsStopIn texts misfit Clash Tour Solution problem faults.TooLarge = IsMisfitIn texts misfit problem faults.TooLarge
IsStopIn texts misfit Clash Tour Solution problem faults.NoPlaces = IsMisfitIn texts misfit problem faults.NoPlaces
IsStopIn texts misfit Clash Tour Solution problem (faults.WrongNames n) =
    IsMisfitIn texts misfit problem (faults.WrongNames n)
IsStopIn texts misfit Clash Tour Solution problem _ = Unit {0}

-- likewise, for a problem text
abbrev pub IsStop : (ProblemIs → Option Fault) → (ProblemIs → Fault → Type 0) → (ProblemIs → TextFault → Type 0) →
    (ProblemIs → TextFault → Type 0) → List ℕ → Fault → Type 0
IsStop = IsStopIn problem_texts

-- the answer reports why the problem of a text does not fit
abbrev pub IsMisfitAnswer : {V : Type 0} → Texts V TextFault → (V → Option Fault) → List ℕ → Answer → Type 0
IsMisfitAnswer texts misfit problem answer =
    (f : Fault) × IsMisfitIn texts misfit problem f × (answer ≡ refused 0 0 (misfit_number f) answer.needed)

-- no second text is rejected
abbrev pub NoRefusal : ProblemIs → Answer → Type 0
NoRefusal p answer = ⊥

-- the answer reports correctly why a call was rejected: the problem text, whose number is `first`, has the fault, as
-- one of these texts; or the problem does not fit, for the reason that is reported; or it fits, and the second text has
-- the fault, or clashes with the problem
pub record IsRightRefusalIn {V : Type 0} (texts : Texts V TextFault) (misfit : V → Option Fault)
    (Clash : V → Fault → Type 0) (Second : V → Answer → Type 0) (first : ℕ) (problem : List ℕ)
    (answer : Answer) : Type 0 where
  pub known : (answer.text ≡ 0) ⊎ ((answer.text ≡ first) ⊎ (answer.text ≡ first + 1))
  pub is_problem : answer.text ≡ first → IsFaulty texts first problem answer
  pub is_second : answer.text ≡ first + 1 →
      IsFitIn texts misfit problem (λ p. Second p answer
      ⊎ ((f : Fault) × Clash p f × (answer ≡ fault_answer first f answer.needed)))
  pub is_misfit : answer.text ≡ 0 → IsMisfitAnswer texts misfit problem answer

-- likewise, for a problem text
abbrev pub IsRightRefusal : (ProblemIs → Option Fault) → (ProblemIs → Fault → Type 0) →
    (ProblemIs → Answer → Type 0) → ℕ → List ℕ → Answer → Type 0
IsRightRefusal = IsRightRefusalIn problem_texts
