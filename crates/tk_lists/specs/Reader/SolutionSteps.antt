-- The steps of the reader of solutions: how it handles a line, a customer and the cost, whatever lines it took before.
use Rattle.std.specs.Prelude.{◌≡◌, ℕ, ◌+◌, Bool, true, false, List, [], ◌∷◌, ◌++◌, length, Some, Result, IfOk, IfErr}
use Rattle.tk_words.specs.declared.fault.TextKind.{TextKind}
use Rattle.tk_words.specs.Lex.{Token}
use Rattle.tk_lines.specs.Pieces.{Fault, first_at}
use Rattle.tk_lines.specs.Reader.Handlers.{IsReportedWord, whole}
use Rattle.tk_lists.specs.declared.solution_handler.SolutionHandler.{SolutionHandler}
use Rattle.tk_lists.specs.declared.solution_reader.SolutionReader.{SolutionReader}
use Rattle.tk_lists.specs.Solution.{Route, SolutionLine, cost_stop, cost_tests, count_of, customer_stop, has_cost}
use Rattle.tk_lists.specs.Solution.{line_stop, other_tests, route_tests}
use Rattle.tk_lists.specs.Reader.SolutionReader.{HasEndedLine, IsPriced, IsRoute, Keeps, LineStopsAt, StandsOnLine}
use Rattle.tk_lists.specs.Reader.SolutionReader.{Went, rest_of}

-- a Route line is not allowed here
abbrev pub RefusesRoute : SolutionHandler → Result (Unit {0}) TextKind → Type 0
RefusesRoute form result =
    (before : List SolutionLine) (n : ℕ) → Keeps form before [] →
    IfErr result (IsReportedWord (λ k. first_at n (route_tests before) ≡ Some (Fault n k)))

-- a customer of the route is taken or refused
abbrev pub TakesCustomer : List ℕ → SolutionHandler → SolutionHandler → Result (Unit {0}) TextKind → Type 0
TakesCustomer token old new result =
    (before : List SolutionLine) (toks : List Token) (n : ℕ) → Keeps old before toks → IsRoute before toks →
    IfOk result (λ _. Keeps new before (toks ++ whole token n ∷ []) × IsRoute before (toks ++ whole token n ∷ []))

abbrev pub RefusesCustomer : List ℕ → SolutionHandler → Result (Unit {0}) TextKind → Type 0
RefusesCustomer token old result =
    (before : List SolutionLine) (toks : List Token) (n : ℕ) → Keeps old before toks → IsRoute before toks →
    IfErr result
    (IsReportedWord (λ k. customer_stop (count_of before + length toks) (whole token n) ≡ Some (Fault n k)))

-- the route is stored
abbrev pub KeepsRoute : SolutionHandler → SolutionHandler → Result (Unit {0}) TextKind → Type 0
KeepsRoute old new result =
    (before : List SolutionLine) (toks : List Token) → Keeps old before toks → IsRoute before toks →
    IfOk result (λ _. Keeps new (before ++ Route toks ∷ []) [])

-- a Cost line is not allowed here
abbrev pub RefusesCostLine : SolutionHandler → Result (Unit {0}) TextKind → Type 0
RefusesCostLine form result =
    (before : List SolutionLine) (n : ℕ) → Keeps form before [] →
    IfErr result (IsReportedWord (λ k. first_at n (cost_tests before) ≡ Some (Fault n k)))

-- the cost is taken or refused
abbrev pub TakesCost : List ℕ → SolutionHandler → SolutionHandler → Result (Unit {0}) TextKind → Type 0
TakesCost token old new result =
    (before : List SolutionLine) (n : ℕ) → Keeps old before [] → has_cost before ≡ false →
    IfOk result (λ _. IsPriced new before n (whole token n ∷ []))

abbrev pub RefusesCost : List ℕ → SolutionHandler → Result (Unit {0}) TextKind → Type 0
RefusesCost token old result =
    (before : List SolutionLine) (n : ℕ) → Keeps old before [] → has_cost before ≡ false →
    IfErr result
    (IsReportedWord (λ k. (ended : Bool) (toks : List Token) →
    cost_stop n ended (whole token n ∷ toks) ≡ Some (Fault n k)))

-- a line with another word is not allowed here
abbrev pub RefusesOther : SolutionHandler → Result (Unit {0}) TextKind → Type 0
RefusesOther form result =
    (before : List SolutionLine) (n : ℕ) → Keeps form before [] →
    IfErr result (IsReportedWord (λ k. first_at n (other_tests before) ≡ Some (Fault n k)))

-- a byte of the line is taken, or it gives the line a fault
abbrev pub TakesLineByte : ℕ → SolutionReader → SolutionReader → Result (Unit {0}) TextKind → Type 0
TakesLineByte byte old new result =
    (before : List SolutionLine) (toks : List Token) → StandsOnLine old before toks →
    IfOk result (λ _. Went before byte (rest_of old toks) new)

abbrev pub RefusesLineByte : ℕ → SolutionReader → Result (Unit {0}) TextKind → Type 0
RefusesLineByte byte old result =
    (before : List SolutionLine) (toks : List Token) → StandsOnLine old before toks →
    IfErr result (IsReportedWord (LineStopsAt before old.line byte (rest_of old toks)))

-- the line ends without a fault, or is refused
abbrev pub EndsLine : SolutionReader → SolutionReader → Result (Unit {0}) TextKind → Type 0
EndsLine old new result =
    (before : List SolutionLine) (toks : List Token) → StandsOnLine old before toks →
    IfOk result (λ _. HasEndedLine before old.line (rest_of old toks [] true) new.form)

abbrev pub RefusesLine : SolutionReader → Result (Unit {0}) TextKind → Type 0
RefusesLine old result =
    (before : List SolutionLine) (toks : List Token) → StandsOnLine old before toks →
    IfErr result
    (IsReportedWord (λ k. line_stop before old.line true (rest_of old toks [] true) ≡ Some (Fault old.line k)))
