-- How engines end. The stages are the same for all engines. The problem text is read, and the problem must fit the
-- task. If there is a second text, it is read, and must fit the problem. Then the work is done, and its output is
-- written.
--     Task      the task of an engine, whatever its sources and sinks
--     ReadsProblem, ReadsTour, ReadsSolution, NoText      the contents of the text of a source
--     ReadsGiven      likewise, if the text is given
--     HasRead value      the contents of a text, once it has been read
--     Ends task Problem Second Writes result      the stage that was reached, and what is known there
--     written_as task answer_to text_of      the task whose outcome is written
--     write_end written      the end of an engine, by that of its writer
--     EndsByProblem      like Ends, but the problem decides how the second text is read
--     BeforeSecond, UnlessWrite, AtWrite      a fact that is true at some of the stages
use Rattle.std.specs.Prelude.{◌≡◌, ◌≢◌, ℕ, Bool, true, false, List, Option, Some, None, Result, Ok, Err}
use Rattle.tk_words.specs.Texts.{Texts, OfSource, IsAnswerIfSpecified, IsFaultIfSpecified, IsOfSomeText}
use Rattle.tk_words.specs.Texts.{IsFaultOfSomeText}
use Rattle.tk_problem_text.specs.Problem.{ProblemIs, problem_texts}
use Rattle.tk_lists.specs.Solution.{Solution, solution_texts}
use Rattle.tk_lists.specs.Tour.{tour_texts}
use Rattle.tk_words.specs.declared.fault.TextFault.{TextFault}
use Rattle.tk_words.specs.declared.sources.source.Source as sources
use Rattle.tk_writers.specs.declared.output.pen.WriteFault.{WriteFault}
use Rattle.tk_writers.specs.declared.output.sink.Sink as sinks
use Rattle.tk_engines.specs.declared.fault.Fault.{Fault}
use Rattle.tk_engines.specs.declared.fault.Fault.TheVariants as faults

-- ---- sources and sinks

-- the text of a source contains this value, and no read failed
pub record IsRead {V S : Type 0} (texts : Texts V TextFault) (source : sources.Ghosts S) (old new : S) (value : V) :
    Type 0 where
  pub answer : IsAnswerIfSpecified texts (source.left old) (source.left new) (Ok value)
  pub some_text : IsOfSomeText texts (Ok value)
  pub intact : source.broken new ≡ source.broken old

-- the text of a source has this fault, or reading it failed, or memory ran out
pub record IsRefused {V S : Type 0} (texts : Texts V TextFault) (source : sources.Ghosts S) (old new : S)
    (f : TextFault) : Type 0 where
  pub fault : IsFaultIfSpecified texts (source.broken new) (source.left old) (source.left new) f
  pub some_fault : IsFaultOfSomeText texts f
  pub intact : texts.cause f ≢ OfSource → source.broken new ≡ source.broken old

-- what is known if a text is read as a value, or is rejected
abbrev pub Reading : Type 0 → Type 1
Reading V = Result V Fault → Type 0

-- what is known if a text is written, or if writing it breaks off
abbrev pub Writing : Type 0 → Type 1
Writing T = Result (Unit {0}) WriteFault → T → Type 0

-- nothing is written, so no write fails
abbrev pub WritesNothing : Writing (Unit {0})
WritesNothing (Ok _) text = Unit {0}
WritesNothing (Err f) text = ⊥

-- the text of a source was read, or was rejected with a fault that the engine wraps by `wrap`
abbrev pub Reads : {V S : Type 0} → Texts V TextFault → (TextFault → Fault) → sources.Ghosts S → S → S → Reading V
Reads texts wrap source old new (Ok value) = IsRead texts source old new value
Reads texts wrap source old new (Err fault) = (f : TextFault) × (fault ≡ wrap f) × IsRefused texts source old new f

abbrev pub ReadsProblem : {S : Type 0} → sources.Ghosts S → S → S → Reading ProblemIs
ReadsProblem = Reads problem_texts faults.Problem

abbrev pub ReadsTour : {S : Type 0} → sources.Ghosts S → S → S → Reading (List ℕ)
ReadsTour = Reads tour_texts faults.Tour

abbrev pub ReadsSolution : {S : Type 0} → sources.Ghosts S → S → S → Reading Solution
ReadsSolution = Reads solution_texts faults.Solution

-- a source still has all of its bytes, and no read failed
abbrev pub IsUnread : {S : Type 0} → sources.Ghosts S → S → S → Type 0
IsUnread source old new = (source.left new ≡ source.left old) × (source.broken new ≡ source.broken old)

-- a text is read if it is given; otherwise its source is not read
abbrev pub ReadsGiven : {V S : Type 0} → Texts V TextFault → (TextFault → Fault) → Bool → sources.Ghosts S → S → S →
    Reading (Option V)
ReadsGiven texts wrap given source old new (Ok None) = (given ≡ false) × IsUnread source old new
ReadsGiven texts wrap given source old new (Ok (Some value)) =
    (given ≡ true) × Reads texts wrap source old new (Ok value)
ReadsGiven texts wrap given source old new (Err f) = (given ≡ true) × Reads texts wrap source old new (Err f)

-- there is no such text, so it has no fault
abbrev pub NoText : Reading (Unit {0})
NoText (Ok _) = Unit {0}
NoText (Err f) = ⊥

-- this value was read
abbrev pub HasRead : {V : Type 0} → V → Reading V
HasRead v (Ok value) = value ≡ v
HasRead v (Err f) = ⊥

-- a sink has taken no byte, and no write failed
abbrev pub IsUnwritten : {W : Type 0} → sinks.Ghosts W → W → W → Type 0
IsUnwritten sink old new = (sink.taken new ≡ sink.taken old) × (sink.broken new ≡ sink.broken old)

-- ---- the stages

-- the task of an engine: it takes a problem and a second text of type B, returns an answer of type R, and writes an
-- output of type T
pub record Task (B R T : Type 0) : Type 1 where
  -- why the problem does not fit the task, such as its type or its size; None if it fits
  pub misfit : ProblemIs → Option Fault
  -- why the second text does not fit the problem; None if it fits
  pub IsClash : ProblemIs → B → Option Fault → Type 0
  -- whether the work takes memory
  pub takes_memory : Bool
  -- the answer, and the output
  pub Gives : ProblemIs → B → R → T → Type 0

-- the task whose outcome is written: this is the answer to an outcome, and this is its text
abbrev pub written_as : {B O R T : Type 0} → Task B O (Unit {0}) → (O → R) → (O → T) → Task B R T
written_as {O = O} task answer_to text_of = record {
  misfit = task.misfit;
  IsClash = task.IsClash;
  takes_memory = task.takes_memory;
  Gives = λ problem second answer text.
      (outcome : O) × task.Gives problem second outcome tt × (answer ≡ answer_to outcome) × (text ≡ text_of outcome);
}

-- the end of an engine, which a fault of a write stops
abbrev pub write_end : Result (Unit {0}) WriteFault → Result (Unit {0}) Fault
write_end (Ok _) = Ok tt
write_end (Err f) = Err (faults.Write f)

-- any second text fits the problem
abbrev pub NoClash : {B : Type 0} → ProblemIs → B → Option Fault → Type 0
NoClash problem second clash = clash ≡ None

-- the problem that was read does not fit
pub record IsMisfit {B R T : Type 0} (task : Task B R T) (Problem : Reading ProblemIs) (f : Fault) : Type 0 where
  pub problem : ProblemIs
  pub is_problem : Problem (Ok problem)
  pub misfit : task.misfit problem ≡ Some f

-- the problem that was read fits, and the second text was rejected
pub record IsSecondRefused {B R T : Type 0} (task : Task B R T) (Problem : Reading ProblemIs)
    (Second : ProblemIs → Reading B) (f : Fault) : Type 0 where
  pub problem : ProblemIs
  pub is_problem : Problem (Ok problem)
  pub fits : task.misfit problem ≡ None
  pub refused : Second problem (Err f)

-- the problem that was read fits, and the second text was read
pub record AreRead {B R T : Type 0} (task : Task B R T) (Problem : Reading ProblemIs) (Second : Reading B)
    (problem : ProblemIs) (second : B) : Type 0 where
  pub is_problem : Problem (Ok problem)
  pub fits : task.misfit problem ≡ None
  pub is_second : Second (Ok second)

-- the texts that were read fit, this is the answer to them, and Written is true of the output with the answer
pub record IsGiven {B R T : Type 0} (task : Task B R T) (Problem : Reading ProblemIs) (Second : ProblemIs → Reading B)
    (Written : T → Type 0) (answer : R) : Type 0 where
  pub problem : ProblemIs
  pub second : B
  pub text : T
  pub read : AreRead task Problem (Second problem) problem second
  pub together : task.IsClash problem second None
  pub gives : task.Gives problem second answer text
  pub written : Written text

-- the last stage that was reached, according to the fault, and what is known there
abbrev pub Stopped : {B R T : Type 0} → Task B R T → Reading ProblemIs → (ProblemIs → Reading B) → Writing T → Fault →
    Type 0
Stopped task Problem Second Writes (faults.Problem f) = Problem (Err (faults.Problem f))
Stopped task Problem Second Writes faults.WrongType = IsMisfit task Problem faults.WrongType
Stopped task Problem Second Writes (faults.NotForType key) = IsMisfit task Problem (faults.NotForType key)
Stopped task Problem Second Writes faults.TooLarge = IsMisfit task Problem faults.TooLarge
Stopped task Problem Second Writes faults.NoPlaces = IsMisfit task Problem faults.NoPlaces
Stopped task Problem Second Writes (faults.WrongNames n) = IsMisfit task Problem (faults.WrongNames n)
Stopped task Problem Second Writes (faults.Tour f) = IsSecondRefused task Problem Second (faults.Tour f)
Stopped task Problem Second Writes (faults.Solution f) = IsSecondRefused task Problem Second (faults.Solution f)
Stopped {B} task Problem Second Writes (faults.Initial f) =
    (p : ProblemIs) × (second : B) × AreRead task Problem (Second p) p second
    × task.IsClash p second (Some (faults.Initial f))
Stopped {B} task Problem Second Writes (faults.InitialRoutes f) =
    (p : ProblemIs) × (second : B) × AreRead task Problem (Second p) p second
    × task.IsClash p second (Some (faults.InitialRoutes f))
Stopped {B} task Problem Second Writes faults.NoMemory =
    (p : ProblemIs) × (second : B) × AreRead task Problem (Second p) p second × (task.takes_memory ≡ true)
Stopped {B} {R} task Problem Second Writes (faults.Write f) =
    (answer : R) × IsGiven task Problem Second (Writes (Err f)) answer

-- an engine has written its whole output, or has stopped; the problem decides how the second text is read
abbrev pub EndsByProblem : {B R T : Type 0} → Task B R T → Reading ProblemIs → (ProblemIs → Reading B) → Writing T →
    Result R Fault → Type 0
EndsByProblem task Problem Second Writes (Ok answer) = IsGiven task Problem Second (Writes (Ok tt)) answer
EndsByProblem task Problem Second Writes (Err f) = Stopped task Problem Second Writes f

-- an engine has written its whole output, or has stopped
abbrev pub Ends : {B R T : Type 0} → Task B R T → Reading ProblemIs → Reading B → Writing T → Result R Fault → Type 0
Ends task Problem Second Writes result = EndsByProblem task Problem (λ _. Second) Writes result

-- ---- a fact that is true at some of the stages

-- P is true if an engine stopped before the second text
abbrev pub BeforeSecond : Type 0 → Fault → Type 0
BeforeSecond P (faults.Problem f) = P
BeforeSecond P faults.WrongType = P
BeforeSecond P (faults.NotForType key) = P
BeforeSecond P faults.TooLarge = P
BeforeSecond P faults.NoPlaces = P
BeforeSecond P (faults.WrongNames n) = P
BeforeSecond P _ = Unit {0}

-- P is true if an engine stopped for a fault other than a write fault
abbrev pub UnlessWrite : Type 0 → Fault → Type 0
UnlessWrite P (faults.Write f) = Unit {0}
UnlessWrite P _ = P

-- P is true if an engine stopped for a write fault
abbrev pub AtWrite : Type 0 → Fault → Type 0
AtWrite P (faults.Write f) = P
AtWrite P _ = Unit {0}
