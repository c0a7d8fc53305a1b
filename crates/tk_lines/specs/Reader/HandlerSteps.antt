-- The steps of a form: how it handles a header, the word of a section, a token and an end, whatever pieces it took
-- before. A step takes what comes (Takes .., Begins .., Ends ..), or refuses it with the fault that the format
-- specifies (Refuses ..).
use Rattle.std.specs.Prelude.{◌≡◌, ℕ, Bool, true, List, [], ◌++◌, Option, Some, None, Result, IfOk, IfErr, IfSome}
use Rattle.tk_words.specs.declared.fault.TextKind.{TextKind}
use Rattle.tk_words.specs.declared.keyword.Keyword.{Keyword}
use Rattle.tk_words.specs.Lex.{Token}
use Rattle.tk_lines.specs.declared.handler.Taken.{Taken}
use Rattle.tk_lines.specs.declared.value_scanner.ValueScanner.{ValueScanner}
use Rattle.tk_lines.specs.Pieces.{Piece, After, Early, Fault, first_at}
use Rattle.tk_lines.specs.Reader.Handlers.{Goes, HasTakenToken, Holding, IsReportedWord, Promise, StopsAt, a_header}
use Rattle.tk_lines.specs.Reader.Handlers.{a_section}
use Rattle.tk_lines.specs.Reader.Handlers.{whole}
use Rattle.tk_lines.specs.Reader.ValueScanner.{Scans}

-- the tests of a header, given the pieces before it
abbrev pub HeaderTests : Type 0
HeaderTests = List Piece → Keyword → List ℕ → List (Bool × TextKind)

abbrev pub TakesHeader : {S : Type 0} → Holding S → HeaderTests → Keyword → ValueScanner → S → S →
    Result (Unit {0}) TextKind → Type 0
TakesHeader holds tests word value old new result =
    (before : List Piece) (v : List ℕ) (n : ℕ) → holds old before → Scans value v
    → IfOk result (λ _. holds new (before ++ a_header word v n) × (first_at n (tests before word v) ≡ None))

abbrev pub RefusesHeader : {S : Type 0} → Holding S → HeaderTests → Keyword → ValueScanner → S →
    Result (Unit {0}) TextKind → Type 0
RefusesHeader holds tests word value old result =
    (before : List Piece) (v : List ℕ) (n : ℕ) → holds old before → Scans value v
    → IfErr result (IsReportedWord (λ k. first_at n (tests before word v) ≡ Some (Fault n k)))

abbrev pub BeginsSection : {V S : Type 0} → Promise V S → Keyword → S → S → Result (Unit {0}) TextKind → Type 0
BeginsSection p word old new result =
    (before : List Piece) (n : ℕ) → p.holds old before
    → IfOk result (λ _. p.wants new before word n [] × Goes p.format before word n [])

abbrev pub RefusesSection : {V S : Type 0} → Promise V S → Keyword → S → Result (Unit {0}) TextKind → Type 0
RefusesSection p word old result =
    (before : List Piece) (n : ℕ) → p.holds old before
    → IfErr result (IsReportedWord (λ k. (toks : List Token) (after : After)
    → p.format.section before word n toks after ≡ Some (Fault n k)))

abbrev pub TakesToken : {V S : Type 0} → Promise V S → List ℕ → S → S → Result Taken TextKind → Type 0
TakesToken p token old new result =
    (before : List Piece) (word : Keyword) (n : ℕ) (toks : List Token) (line : ℕ) → p.wants old before word n toks
    → IfOk result (HasTakenToken p.format (p.holds new) (p.wants new) before word n toks (whole token line))

abbrev pub RefusesToken : {V S : Type 0} → Promise V S → List ℕ → S → Result Taken TextKind → Type 0
RefusesToken p token old result =
    (before : List Piece) (word : Keyword) (n : ℕ) (toks : List Token) (line : ℕ) → p.wants old before word n toks
    → IfErr result (IsReportedWord (StopsAt p.format before word n toks (whole token line)))

-- a section whose bytes end between two tokens is accepted
abbrev pub EndsSection : {V S : Type 0} → Promise V S → S → S → Result (Unit {0}) TextKind → Type 0
EndsSection p old new result =
    (before : List Piece) (word : Keyword) (n : ℕ) (toks : List Token) (line : ℕ) → p.wants old before word n toks
    → IfOk result (λ _. p.holds new (before ++ a_section word n toks (Early line true))
    × (p.format.section before word n toks (Early line true) ≡ None))

abbrev pub RefusesEnd : {V S : Type 0} → Promise V S → S → Result (Unit {0}) TextKind → Type 0
RefusesEnd p old result =
    (before : List Piece) (word : Keyword) (n : ℕ) (toks : List Token) (line : ℕ) → p.wants old before word n toks
    → IfErr result (IsReportedWord (λ k. p.format.section before word n toks (Early line true) ≡ Some (Fault line k)))

-- a fault that is reported at the end is that of the format
abbrev pub TellsEnd : {V S : Type 0} → Promise V S → S → Option TextKind → Type 0
TellsEnd p form result =
    (before : List Piece) → p.holds form before → IfSome result (IsReportedWord (λ k. p.format.at_end before ≡ Some k))

-- if no fault is reported at the end, the format has none there, and the value of the form is that of the text
abbrev pub HasValue : {V S : Type 0} → Promise V S → S → Option TextKind → Type 0
HasValue p form result =
    (before : List Piece) → p.holds form before → result ≡ None
    → (p.format.at_end before ≡ None) × (p.held form ≡ p.format.value before)

abbrev pub HasAll : {V S : Type 0} → Promise V S → S → Option TextKind → Type 0
HasAll p form result = (before : List Piece) → p.holds form before → result ≡ None → p.complete form
