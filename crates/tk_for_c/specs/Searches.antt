-- What the functions for searches have in common: options within their limits, the output for texts in memory, and why
-- there was no search.
--     StartSays texts given text      the start of a search, if it is given: an initial tour or an initial solution
--     IsOutputOf texts task given problem start      the two texts that a task writes
--     IsSearchRefused texts misfit IsClash given first problem start      the answer to texts that were rejected
use Rattle.std.specs.Prelude.{◌≡◌, ◌≤◌, ◌+◌, ℕ, Bool, true, false, List, Option, Some, None, ◌==◌, if◌then◌else◌}
use Rattle.tk_near.specs.ListLengths.{IsListLength}
use Rattle.tk_text.specs.Problem.{ProblemIs, problem_texts}
use Rattle.tk_text.specs.Texts.{Texts}
use Rattle.tk_words.specs.declared.fault.TextFault.{TextFault}
use Rattle.tk_engines.specs.Engine.{Task}
use Rattle.tk_engines.specs.Requested.{SearchIs}
use Rattle.tk_engines.specs.Solve.{Files}
use Rattle.tk_engines.specs.declared.fault.Fault.{Fault}
use Rattle.tk_params.specs.declared.value.Construction.TheVariants.{Nearest, Savings}
use Rattle.tk_for_c.specs.Answers.{IsFaulty, IsRightRefusal}
use Rattle.tk_for_c.specs.Outcomes.{IsFailure, fault_answer, with_status}
use Rattle.tk_for_c.specs.Texts.{AreWritten, HasFault, IsSomeText, TextSays}
use Rattle.tk_for_c.specs.declared.answer.Answer.{Answer}
use Rattle.tk_for_c.specs.declared.search.SearchOptions.{SearchOptions}

-- ---- options

-- each number is within its limits
pub record IsInRange (o : SearchOptions) : Type 0 where
  pub runs : (1 ≤ o.runs) × (o.runs ≤ 10000)
  pub trials : o.trials ≤ 1000000
  pub candidates : IsListLength o.candidates
  pub or_segment : (1 ≤ o.or_segment) × (o.or_segment ≤ 3)

-- the settings that options specify; 0 trials stand for the default
abbrev pub settings_of : SearchOptions → SearchIs
settings_of o =
    record {
      runs = o.runs;
      max_trials = if o.trials == 0 then None else Some o.trials;
      seed = o.seed;
      max_candidates = o.candidates;
      construction = if o.savings then Savings else Nearest;
      final_sweep = o.final_sweep;
      or_segment = o.or_segment;
    }

-- ---- the output

-- the start of a search, if it is given
abbrev pub StartSays : {V : Type 0} → Texts V TextFault → Bool → List ℕ → Option V → Type 0
StartSays texts given text None = given ≡ false
StartSays texts given text (Some value) = (given ≡ true) × TextSays texts text value

-- the output of a task for a problem and a start: the text of the tour or of the solution, and the lines that are
-- printed
pub record IsOutputOf {V : Type 0} (texts : Texts V TextFault) (task : Task (Option V) (Unit {0}) Files) (given : Bool)
    (problem start : List ℕ) (files : Files) : Type 0 where
  pub q : ProblemIs
  pub second : Option V
  pub is_problem : TextSays problem_texts problem q
  pub fits : task.misfit q ≡ None
  pub is_start : StartSays texts given start second
  pub together : task.IsClash q second None
  pub gives : task.Gives q second tt files

-- output that satisfies Solves was written to the two buffers
abbrev pub HoldFiles : (Files → Type 0) → List ℕ → List ℕ → List ℕ → List ℕ → Answer → Type 0
HoldFiles Solves out out' file file' answer =
    (files : Files) × Solves files × AreWritten 0 files.out out out' files.file file file' answer

-- ---- refusals

-- a start is given, and has this fault for the problem
pub record IsStartClash {V : Type 0} (texts : Texts V TextFault)
    (IsClash : ProblemIs → Option V → Option Fault → Type 0) (given : Bool) (start : List ℕ) (q : ProblemIs)
    (f : Fault) : Type 0 where
  pub is_given : given ≡ true
  pub value : V
  pub is_start : TextSays texts start value
  pub clash : IsClash q (Some value) (Some f)

-- the text of a start is given, and has this fault
abbrev pub IsStartFault : {V : Type 0} → Texts V TextFault → Bool → List ℕ → ProblemIs → TextFault → Type 0
IsStartFault texts given start q f = (given ≡ true) × HasFault texts start f

-- the text of a start is given, and has the fault that the answer reports; its number is this
abbrev pub IsStartFaulty : {V : Type 0} → Texts V TextFault → ℕ → Bool → List ℕ → ProblemIs → Answer → Type 0
IsStartFaulty texts number given start q answer = (given ≡ true) × IsFaulty texts number start answer

-- the answer reports correctly why there was no search: the problem text, whose number is `first`, or the start has a
-- fault, or the problem does not fit
abbrev pub IsSearchRefused : {V : Type 0} → Texts V TextFault → (ProblemIs → Option Fault) →
    (ProblemIs → Option V → Option Fault → Type 0) → Bool → ℕ → List ℕ → List ℕ → Answer → Type 0
IsSearchRefused texts misfit IsClash given first problem start answer =
    IsRightRefusal misfit (IsStartClash texts IsClash given start) (IsStartFaulty texts (first + 1) given start) first
    problem answer

-- the answer for a fault that stopped a search, whose message was written to the first buffer
pub record IsStopped (first : ℕ) (f : Fault) (out out' file file' : List ℕ) (answer : Answer) : Type 0 where
  pub is : answer ≡ fault_answer first f answer.needed
  pub failure : IsFailure answer.needed answer
  pub message : IsSomeText out out' answer
  pub kept : file' ≡ file

-- how a search ends: with output that satisfies Solves, or with a refusal that satisfies Refuses
pub record IsEnd (Solves : Files → Type 0) (Refuses : Answer → Type 0) (out out' file file' : List ℕ)
    (answer : Answer) : Type 0 where
  pub given : answer.status ≤ 1 → HoldFiles Solves out out' file file' answer
  pub known : answer.status ≤ 3
  pub refused : answer.status ≡ 2 → Refuses answer
  pub memory : answer.status ≡ 3 → answer ≡ with_status 3 answer.needed
  pub message : 2 ≤ answer.status → IsSomeText out out' answer
  pub kept : 2 ≤ answer.status → file' ≡ file
