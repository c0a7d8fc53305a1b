-- The answers of calls, by their outcome. Fields that do not apply are 0.
use Rattle.std.specs.Prelude.{◌≡◌, ◌≤◌, ◌+◌, ℕ, min}
use Rattle.tk_tour.specs.declared.fault.TourFault.{TourFault}
use Rattle.tk_tour.specs.declared.fault.TourFault.TheVariants as tours
use Rattle.tk_tour.specs.declared.verdict.Verdict.{Verdict}
use Rattle.tk_tour.specs.declared.verdict.Verdict.TheVariants as verdicts
use Rattle.tk_engines.specs.declared.fault.Fault.{Fault}
use Rattle.tk_engines.specs.declared.fault.Fault.TheVariants as faults
use Rattle.tk_engines.specs.declared.route_fault.RouteFault.{RouteFault}
use Rattle.tk_engines.specs.declared.route_fault.RouteFault.TheVariants as solutions
use Rattle.tk_words.specs.declared.fault.TextFault.{TextFault}
use Rattle.tk_words.specs.declared.fault.TextKind.{TextKind}
use Rattle.tk_words.specs.declared.fault.TextKind.TheVariants as kinds
use Rattle.tk_params.specs.declared.fault.ParamFault.{ParamFault}
use Rattle.tk_params.specs.declared.fault.ParamKind.{ParamKind}
use Rattle.tk_params.specs.declared.fault.ParamKind.TheVariants as params
use Rattle.tk_for_c.specs.declared.answer.Answer.{Answer}

-- a status, and the number of bytes or numbers to write
abbrev pub with_status : ℕ → ℕ → Answer
with_status status needed =
    record { status = status; text = 0; line = 0; kind = 0; place = 0; length = 0; needed = needed; needed_file = 0 }

-- a status, and the numbers of bytes to write to two buffers
abbrev pub with_status_twice : ℕ → ℕ → ℕ → Answer
with_status_twice status needed needed_file = record {
  status = status;
  text = 0;
  line = 0;
  kind = 0;
  place = 0;
  length = 0;
  needed = needed;
  needed_file = needed_file;
}

-- the list is a tour of this length
abbrev pub of_length : ℕ → Answer
of_length length =
    record { status = 0; text = 0; line = 0; kind = 0; place = 0; length = length; needed = 0; needed_file = 0 }

-- the list has this fault at this position, which is 0 for a wrong count
abbrev pub found : ℕ → ℕ → Answer
found kind place =
    record { status = 1; text = 0; line = 0; kind = kind; place = place; length = 0; needed = 0; needed_file = 0 }

abbrev pub verdict_answer : Verdict → ℕ → Answer
verdict_answer verdicts.Tour length = of_length length
verdict_answer verdicts.WrongCount length = found 20 0
verdict_answer (verdicts.OutOfRange place) length = found 21 place
verdict_answer (verdicts.RepeatedCity place) length = found 22 place

-- the number of the rejected text, the line and the number of its fault, and the number of bytes of the message
abbrev pub refused : ℕ → ℕ → ℕ → ℕ → Answer
refused text line kind needed = record {
  status = 2;
  text = text;
  line = line;
  kind = kind;
  place = 0;
  length = 0;
  needed = needed;
  needed_file = 0;
}

-- the tour or the routes of this text clash with the problem at this position, which is 0 for none
abbrev pub clashing : ℕ → ℕ → ℕ → ℕ → Answer
clashing text kind place needed = record {
  status = 2;
  text = text;
  line = 0;
  kind = kind;
  place = place;
  length = 0;
  needed = needed;
  needed_file = 0;
}

abbrev pub clash_answer : ℕ → TourFault → ℕ → Answer
clash_answer text tours.WrongCount needed = clashing text 20 0 needed
clash_answer text (tours.OutOfRange place) needed = clashing text 21 place needed
clash_answer text (tours.RepeatedCity place) needed = clashing text 22 place needed
clash_answer text tours.NoMemory needed = with_status 3 needed

-- the number of a route as a position, which is a number of 32 bits
abbrev pub place_of_route : ℕ → ℕ
place_of_route route = min route 4294967295

-- the position is the route, or else the customer
abbrev pub route_clash_answer : ℕ → RouteFault → ℕ → Answer
route_clash_answer text (solutions.BadCustomer route number) needed = clashing text 23 (place_of_route route) needed
route_clash_answer text (solutions.ServedTwice customer) needed = clashing text 24 customer needed
route_clash_answer text (solutions.OverCapacity route load) needed = clashing text 25 (place_of_route route) needed
route_clash_answer text (solutions.NotServed customer) needed = clashing text 26 customer needed
route_clash_answer text (solutions.WrongCost read counted) needed = clashing text 27 0 needed

-- the number of a kind of fault, as in its message
abbrev pub text_number : TextKind → ℕ
text_number kinds.UnknownKeyword = 1
text_number kinds.Repeated = 2
text_number (kinds.Missing keyword) = 3
text_number kinds.Unsupported = 4
text_number kinds.BadNumber = 5
text_number kinds.OutOfLimit = 6
text_number kinds.BadNode = 7
text_number (kinds.NotSymmetric a b) = 8
text_number kinds.Truncated = 9
text_number kinds.TrailingData = 10
text_number kinds.BadDepot = 11
text_number (kinds.DemandOverCapacity node) = 12
text_number kinds.TooLong = 13
text_number kinds.Read = 14
text_number kinds.NoMemory = 15

abbrev pub param_number : ParamKind → ℕ
param_number params.UnknownKey = 1
param_number params.RepeatedKey = 2
param_number params.BadValue = 3
param_number params.MissingProblem = 4
param_number params.DollarInName = 5
param_number params.TooLong = 6
param_number params.Read = 7
param_number params.NoMemory = 8

-- the number of the reason why a problem does not fit a task; 0 for `WrongNames`, which does not occur, since pages of
-- the library have no names
abbrev pub misfit_number : Fault → ℕ
misfit_number faults.WrongType = 16
misfit_number (faults.NotForType key) = 17
misfit_number faults.TooLarge = 18
misfit_number faults.NoPlaces = 19
misfit_number _ = 0

-- the answer for a fault of a text: its line and number; or status 3, if memory ran out or a read failed, which does
-- not happen to a text in memory
abbrev pub kind_answer : TextKind → ℕ → ℕ → ℕ → Answer
kind_answer kinds.NoMemory text line needed = with_status 3 needed
kind_answer kinds.Read text line needed = with_status 3 needed
kind_answer kind text line needed = refused text line (text_number kind) needed

abbrev pub text_answer : ℕ → TextFault → ℕ → Answer
text_answer text fault needed = kind_answer fault.kind text fault.line needed

-- like kind_answer, for the parameters, which are the first text
abbrev pub param_kind_answer : ParamKind → ℕ → ℕ → Answer
param_kind_answer params.NoMemory line needed = with_status 3 needed
param_kind_answer params.Read line needed = with_status 3 needed
param_kind_answer kind line needed = refused 1 line (param_number kind) needed

abbrev pub param_answer : ParamFault → ℕ → Answer
param_answer fault needed = param_kind_answer fault.kind fault.line needed

-- the answer for a fault that stopped an engine; `problem` is the number of the problem text, and the other text has
-- the next number
abbrev pub fault_answer : ℕ → Fault → ℕ → Answer
fault_answer problem (faults.Problem f) needed = text_answer problem f needed
fault_answer problem (faults.Tour f) needed = text_answer (problem + 1) f needed
fault_answer problem (faults.Solution f) needed = text_answer (problem + 1) f needed
fault_answer problem (faults.Initial f) needed = clash_answer (problem + 1) f needed
fault_answer problem (faults.InitialRoutes f) needed = route_clash_answer (problem + 1) f needed
fault_answer problem (faults.Write f) needed = with_status 3 needed
fault_answer problem faults.NoMemory needed = with_status 3 needed
fault_answer problem f needed = refused 0 0 (misfit_number f) needed

-- a call that failed, with a message of `needed` bytes: it was rejected, or memory ran out, and then all other fields
-- are 0
pub record IsFailure (needed : ℕ) (answer : Answer) : Type 0 where
  pub failed : 2 ≤ answer.status
  pub known : answer.status ≤ 3
  pub memory : answer.status ≡ 3 → answer ≡ with_status 3 needed
  pub size : answer.needed ≡ needed
