-- How an engine ends, by how it ends once its texts are read.
use Rattle.std.proofs.Common.{◌≡◌, None, Result, Ok, Err, refl, subst, sym}
use Rattle.std.specs.Prelude.{IfErr, OnErr}
use Rattle.tk_problem_text.specs.Problem.{ProblemIs}
use Rattle.tk_writers.specs.declared.output.pen.WriteFault.{WriteFault}
use Rattle.tk_engines.specs.Engine.{AreRead, AtWrite, BeforeSecond, Ends, EndsByProblem, HasRead, IsGiven, IsMisfit}
use Rattle.tk_engines.specs.Engine.{IsSecondRefused, Reading, Task, UnlessWrite, Writing, WritesNothing}
use Rattle.tk_engines.specs.Engine.{write_end, written_as}
use Rattle.tk_engines.specs.declared.fault.Fault.{Fault}
use Rattle.tk_engines.specs.declared.fault.Fault.TheVariants as faults

-- what is known of a value that was read is known of what has read it
known_of : {V : Type 0} (Known : Reading V) (v : V) → Known (Ok v) → (r : Result V Fault) → HasRead v r → Known r
known_of {V} Known v is (Ok value) h = subst (λ (x : V). Known (Ok x)) (sym h) is
known_of Known v is (Err f) h = elim h [ ]

-- more is known of both texts
module _ {B R T : Type 0} (task : Task B R T) (Problem ProblemMore : Reading ProblemIs)
    (Second SecondMore : ProblemIs → Reading B) (Writes : Writing T)
    (problem_more : (r : Result ProblemIs Fault) → Problem r → ProblemMore r)
    (second_more : (p : ProblemIs) (r : Result B Fault) → Second p r → SecondMore p r) where
  read_more : (p : ProblemIs) (second : B) → AreRead task Problem (Second p) p second →
      AreRead task ProblemMore (SecondMore p) p second
  read_more p second h =
      record {
        is_problem = problem_more (Ok p) h.is_problem;
        fits = h.fits;
        is_second = second_more p (Ok second) h.is_second;
      }

  given_more : (Written : T → Type 0) (answer : R) → IsGiven task Problem Second Written answer →
      IsGiven task ProblemMore SecondMore Written answer
  given_more Written answer h =
      record {
        problem = h.problem;
        second = h.second;
        text = h.text;
        read = read_more h.problem h.second h.read;
        together = h.together;
        gives = h.gives;
        written = h.written;
      }

  misfit_more : {f : Fault} → IsMisfit task Problem f → IsMisfit task ProblemMore f
  misfit_more h =
      record { problem = h.problem; is_problem = problem_more (Ok h.problem) h.is_problem; misfit = h.misfit }

  refused_more : {f : Fault} → IsSecondRefused task Problem Second f → IsSecondRefused task ProblemMore SecondMore f
  refused_more {f} h =
      record {
        problem = h.problem;
        is_problem = problem_more (Ok h.problem) h.is_problem;
        fits = h.fits;
        refused = second_more h.problem (Err f) h.refused;
      }

  ends_more : (r : Result R Fault) → EndsByProblem task Problem Second Writes r →
      EndsByProblem task ProblemMore SecondMore Writes r
  ends_more (Ok answer) h = given_more (Writes (Ok tt)) answer h
  ends_more (Err (faults.Problem f)) h = problem_more (Err (faults.Problem f)) h
  ends_more (Err (faults.Tour f)) h = refused_more h
  ends_more (Err (faults.Solution f)) h = refused_more h
  ends_more (Err (faults.Initial f)) h = (h.0, h.1, read_more h.0 h.1 h.2, h.3)
  ends_more (Err (faults.InitialRoutes f)) h = (h.0, h.1, read_more h.0 h.1 h.2, h.3)
  ends_more (Err faults.NoMemory) h = (h.0, h.1, read_more h.0 h.1 h.2, h.3)
  ends_more (Err (faults.Write f)) h = (h.0, given_more (Writes (Err f)) h.0 h.1)
  ends_more (Err _) h = misfit_more h

-- the problem is read as this
pub problem_read : {B R T : Type 0} (task : Task B R T) (Problem : Reading ProblemIs) (Second : ProblemIs → Reading B)
    (Writes : Writing T) (p : ProblemIs) → Problem (Ok p) → (r : Result R Fault)
    → EndsByProblem task (HasRead p) Second Writes r → EndsByProblem task Problem Second Writes r
problem_read task Problem Second Writes p is r h =
    ends_more task (HasRead p) Problem Second Second Writes (known_of Problem p is) (λ q s known. known) r h

-- the second text is read as this
pub second_read : {B R T : Type 0} (task : Task B R T) (Problem : Reading ProblemIs) (Second : Reading B)
    (Writes : Writing T) (second : B) → Second (Ok second) → (r : Result R Fault)
    → EndsByProblem task Problem (λ _. HasRead second) Writes r → EndsByProblem task Problem (λ _. Second) Writes r
second_read task Problem Second Writes second is r h =
    ends_more task Problem Problem (λ _. HasRead second) (λ _. Second) Writes (λ s known. known)
    (λ q. known_of Second second is) r h

-- with a problem that fits it does not stop before the second text
pub second_reached : {B R T : Type 0} (P : Type 0) (task : Task B R T) (Second : ProblemIs → Reading B)
    (Writes : Writing T) (p : ProblemIs) → task.misfit p ≡ None → (r : Result R Fault)
    → EndsByProblem task (HasRead p) Second Writes r → IfErr r (BeforeSecond P)
second_reached P task Second Writes p fits (Err (faults.Problem f)) h = elim h [ ]
second_reached P task Second Writes p fits (Err faults.WrongType) h = cc (fits, h.is_problem, h.misfit)
second_reached P task Second Writes p fits (Err (faults.NotForType key)) h = cc (fits, h.is_problem, h.misfit)
second_reached P task Second Writes p fits (Err faults.TooLarge) h = cc (fits, h.is_problem, h.misfit)
second_reached P task Second Writes p fits (Err faults.NoPlaces) h = cc (fits, h.is_problem, h.misfit)
second_reached P task Second Writes p fits (Err (faults.WrongNames n)) h = cc (fits, h.is_problem, h.misfit)
second_reached P task Second Writes p fits _ h = tt

-- an outcome was found, and then written
module _ {B O R T : Type 0} (task : Task B O (Unit {0})) (answer_to : O → R) (text_of : O → T)
    (Problem : Reading ProblemIs) (Second : Reading B) where
  read_as : (p : ProblemIs) (second : B) → AreRead task Problem Second p second →
      AreRead (written_as task answer_to text_of) Problem Second p second
  read_as p second h = record { is_problem = h.is_problem; fits = h.fits; is_second = h.is_second }

  pub given_as : (Written : T → Type 0) (outcome : O) →
      Ends task Problem Second WritesNothing (Ok outcome) → Written (text_of outcome) →
      IsGiven (written_as task answer_to text_of) Problem (λ _. Second) Written (answer_to outcome)
  given_as Written outcome h written =
      record {
        problem = h.problem;
        second = h.second;
        text = text_of outcome;
        read = read_as h.problem h.second h.read;
        together = h.together;
        gives = (outcome, h.gives, refl, refl);
        written = written;
      }

-- the output is given, and its writer ended
pub ended : {B T : Type 0} (task : Task B (Unit {0}) T) (Problem : Reading ProblemIs) (Second : Reading B)
    (Writes : Writing T) (text : T)
    → ((Written : T → Type 0) → Written text → IsGiven task Problem (λ _. Second) Written tt)
    → (w : Result (Unit {0}) WriteFault) → Writes w text → (r : Result (Unit {0}) Fault) → r ≡ write_end w
    → Ends task Problem Second Writes r
ended task Problem Second Writes text given (Ok u) written r is = rw is (given (Writes (Ok tt)) written)
ended task Problem Second Writes text given (Err f) written r is = rw is (tt, given (Writes (Err f)) written)

-- an outcome was found, and its writer ended
pub ends_as : {B O T : Type 0} (task : Task B O (Unit {0})) (text_of : O → T) (Problem : Reading ProblemIs)
    (Second : Reading B) (Writes : Writing T) (outcome : O) → Ends task Problem Second WritesNothing (Ok outcome)
    → (w : Result (Unit {0}) WriteFault) → Writes w (text_of outcome) → (r : Result (Unit {0}) Fault)
    → r ≡ write_end w → Ends (written_as task (λ _. tt) text_of) Problem Second Writes r
ends_as task text_of Problem Second Writes outcome h w written r is =
    ended (written_as task (λ _. tt) text_of) Problem Second Writes (text_of outcome)
    (λ Written. given_as task (λ _. tt) text_of Problem Second Written outcome h) w written r is

-- what is true of each write fault
pub if_unwritten : (P : Fault → Type 0) → ((f : WriteFault) → P (faults.Write f)) → (w : Result (Unit {0}) WriteFault)
    (r : Result (Unit {0}) Fault) → r ≡ write_end w → IfErr r P
if_unwritten P each (Ok u) r is = rw is tt
if_unwritten P each (Err f) r is = rw is (each f)

pub failed_as : (P : Type 0) (w : Result (Unit {0}) WriteFault) (r : Result (Unit {0}) Fault) → r ≡ write_end w →
    OnErr w P → IfErr r (AtWrite P)
failed_as P (Ok u) r is h = rw is tt
failed_as P (Err f) r is h = rw is h

-- what is true of an engine's sinks also is, if it stopped for a fault other than a write fault
pub unless_write : {R P : Type 0} (r : Result R Fault) → P → IfErr r (UnlessWrite P)
unless_write (Ok answer) is = tt
unless_write (Err (faults.Write f)) is = tt
unless_write (Err fault) is = is
