-- The contents of texts in memory, and the writing of texts to buffers.
--     TextSays texts text value      the text contains this value
--     HasFault texts text fault      the text has this fault, or memory ran out, or reading failed
--     IsCheckOf problem tour verdict line      the verdict on the tour of a text, and the line that reports it
use Rattle.std.specs.Prelude.{◌≡◌, ℕ, List, Ok, Err, length}
use Rattle.tk_text.specs.Texts.{IsReportedOf, Texts, answer_of}
use Rattle.tk_text.specs.Problem.{ProblemIs, problem_texts}
use Rattle.tk_problem.specs.declared.weights.Format.{Format}
use Rattle.tk_text.specs.Solution.{Solution, solution_texts}
use Rattle.tk_text.specs.Tour.{tour_texts}
use Rattle.tk_tour.specs.declared.verdict.Verdict.{Verdict}
use Rattle.tk_tour.specs.declared.verdict.Verdict.TheVariants as verdicts
use Rattle.tk_routes.specs.declared.checking.verdict.RouteVerdict.{RouteVerdict}
use Rattle.tk_routes.specs.declared.checking.verdict.RouteVerdict.TheVariants as routes
use Rattle.tk_for_c.specs.HandedOut.{handed_out}
use Rattle.tk_for_c.specs.Outcomes.{with_status, with_status_twice}
use Rattle.tk_for_c.specs.declared.answer.Answer.{Answer}
use Rattle.tk_engines.specs.Check.{check_task}
use Rattle.tk_engines.specs.MatrixOf.{IsMatrixText}
use Rattle.tk_engines.specs.NearText.{near_task}
use Rattle.tk_engines.specs.RouteCheck.{route_check_task}

-- the text contains this value
abbrev pub TextSays : {V E : Type 0} → Texts V E → List ℕ → V → Type 0
TextSays texts text value = answer_of texts text ≡ Ok value

-- the text has this fault; nothing is known if memory ran out or reading failed
abbrev pub HasFault : {V E : Type 0} → Texts V E → List ℕ → E → Type 0
HasFault texts text fault = IsReportedOf (Unit {0}) (λ f. answer_of texts text ≡ Err f) fault (texts.cause fault)

-- the verdict on the tour of one text for the problem of another, and the line that reports it
pub record IsCheckOf (problem tour : List ℕ) (verdict : Verdict) (line : List ℕ) : Type 0 where
  pub p : ProblemIs
  pub cities : List ℕ
  pub is_problem : TextSays problem_texts problem p
  pub is_tour : TextSays tour_texts tour cities
  pub is : check_task.Gives p cities verdict line

-- the status of a verdict: 0 for a tour, 1 for a fault
abbrev pub tour_status : Verdict → ℕ
tour_status verdicts.Tour = 0
tour_status _ = 1

abbrev pub route_status : RouteVerdict → ℕ
route_status (routes.Valid count cost) = 0
route_status _ = 1

-- the verdict on the routes of one text for the problem of another, and the line that reports it
pub record IsRouteCheckOf (problem solution : List ℕ) (verdict : RouteVerdict) (line : List ℕ) : Type 0 where
  pub p : ProblemIs
  pub claimed : Solution
  pub is_problem : TextSays problem_texts problem p
  pub is_solution : TextSays solution_texts solution claimed
  pub is : route_check_task.Gives p claimed verdict line

-- the text of the near lists of the problem of another text
pub record IsNearTextOf (k : ℕ) (problem text : List ℕ) : Type 0 where
  pub p : ProblemIs
  pub is_problem : TextSays problem_texts problem p
  pub is : (near_task k).Gives p tt tt text

-- the text of the matrix of the problem of another text
pub record IsMatrixTextOf (format : Format) (problem text : List ℕ) : Type 0 where
  pub p : ProblemIs
  pub is_problem : TextSays problem_texts problem p
  pub is : IsMatrixText format p text

-- some text of `needed` bytes was written to the buffer, as much of it as fits
abbrev pub WasHandedOut : List ℕ → List ℕ → ℕ → Type 0
WasHandedOut old new needed = (text : List ℕ) × (needed ≡ length text) × (new ≡ handed_out text old)

-- some text was written to the buffer, as much of it as fits, and the answer has its number of bytes
abbrev pub IsSomeText : List ℕ → List ℕ → Answer → Type 0
IsSomeText old new answer = WasHandedOut old new answer.needed

-- this text was written to the buffer, as much of it as fits, and the answer has this status and its number of bytes
pub record IsWritten (status : ℕ) (text old new : List ℕ) (answer : Answer) : Type 0 where
  pub answer_is : answer ≡ with_status status (length text)
  pub bytes : new ≡ handed_out text old

-- like IsWritten, for two texts and two buffers
pub record AreWritten (status : ℕ) (text old new text' old' new' : List ℕ) (answer : Answer) : Type 0 where
  pub answer_is : answer ≡ with_status_twice status (length text) (length text')
  pub first : new ≡ handed_out text old
  pub second : new' ≡ handed_out text' old'

abbrev pub IsCheckWritten : List ℕ → List ℕ → List ℕ → List ℕ → Answer → Type 0
IsCheckWritten problem tour old new answer =
    (v : Verdict) × (line : List ℕ) × IsCheckOf problem tour v line × IsWritten (tour_status v) line old new answer

abbrev pub IsRouteCheckWritten : List ℕ → List ℕ → List ℕ → List ℕ → Answer → Type 0
IsRouteCheckWritten problem solution old new answer =
    (v : RouteVerdict) × (line : List ℕ) × IsRouteCheckOf problem solution v line
    × IsWritten (route_status v) line old new answer

-- a text that satisfies Is was written
abbrev pub IsTextWritten : (List ℕ → Type 0) → List ℕ → List ℕ → Answer → Type 0
IsTextWritten Is old new answer = (text : List ℕ) × Is text × IsWritten 0 text old new answer
