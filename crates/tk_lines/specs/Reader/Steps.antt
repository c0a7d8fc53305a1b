-- The steps of a reader: how it takes bytes, and how it ends a word, a token and the text, whatever bytes it took
-- before.
--     HasCome p next new bs result      the state after these bytes: they are taken, complete the text, or have a fault
--     TakesByte, TakesSettled, TakesWhole, TakesRun      a byte; one that ends nothing; a token and a byte; tokens
--     Closes, ClosesPlace, ClosesHeader, EndsToken      the end of what is open; in any state; of a header; of a token
--     Finishes p old new result      the end of the text
use Rattle.std.specs.Prelude.{◌≡◌, ℕ, ◌≤◌, Bool, true, false, not, ◌||◌, ◌==◌, List, [], ◌∷◌, ◌++◌, length, take, Some}
use Rattle.std.specs.Prelude.{None, Result, Ok, Err}
use Rattle.tk_words.specs.declared.fault.TextFault.{TextFault}
use Rattle.tk_words.specs.declared.keyword.Keyword.{Keyword}
use Rattle.tk_words.specs.declared.sources.text_reader.FeedResult.{FeedResult}
use Rattle.tk_words.specs.declared.sources.text_reader.FeedResult.TheVariants.{Taken, Done}
use Rattle.tk_words.specs.Lex.{LF, IsUnbroken, is_blank, is_word_byte}
use Rattle.tk_words.specs.Texts.{IsReportedOf, cause_of}
use Rattle.tk_lines.specs.declared.line_state.LineState.{LineState}
use Rattle.tk_lines.specs.declared.line_state.LineState.TheVariants as places
use Rattle.tk_lines.specs.declared.line_state.Flow.{Flow}
use Rattle.tk_lines.specs.declared.line_state.Flow.TheVariants.{On, Whole}
use Rattle.tk_lines.specs.declared.reader.PieceReader.{PieceReader}
use Rattle.tk_lines.specs.Reader.Handlers.{Promise}
use Rattle.tk_lines.specs.Pieces.{Format, decided_by}
use Rattle.tk_lines.specs.Reader.Places.{Next, Within, Fed, IsInSection, HeaderTaken, DecidesIf, this, anything, at_end}
use Rattle.tk_lines.specs.Reader.Places.{a_gap, a_line_end, no_word}

-- a fault of the text satisfies P as an error; memory may run out at any time, and the source does not fail
abbrev pub IsFaultWith : {V : Type 0} → (Result V TextFault → Type 0) → TextFault → Type 0
IsFaultWith P f = IsReportedOf ⊥ (λ e. P (Err e)) f (cause_of f.kind)

abbrev pub IsFed : {V S : Type 0} → Promise V S → Next → PieceReader S → Type 0
IsFed p next reader = (before : List ℕ) × Fed p next reader before

-- the reader has taken these bytes, which do not decide the result
pub record Waits {V S : Type 0} (p : Promise V S) (reader : PieceReader S) (before : List ℕ) : Type 0 where
  pub fed : Fed p anything reader before
  pub undecided : decided_by p.format false before ≡ None

-- the reader is in the right state for some condition on the bytes that follow
abbrev pub IsKnown : {V S : Type 0} → Promise V S → PieceReader S → Type 0
IsKnown p reader = (next : Next) × IsFed p next reader

-- the state of a reader after these bytes: they are taken; or they complete the text, and the form has its complete
-- value; or they have a fault
abbrev pub HasCome : {V S : Type 0} → Promise V S → Next → PieceReader S → List ℕ → Result Flow TextFault → Type 0
HasCome p next new bs (Ok On) = Fed p next new bs
HasCome p next new bs (Ok Whole) = DecidesIf p.format next bs (Ok (p.held new.form)) × p.complete new.form
HasCome p next new bs (Err f) = IsFaultWith (DecidesIf p.format next bs) f

-- ---- bytes

abbrev pub TakesByte : {V S : Type 0} → Promise V S → PieceReader S → PieceReader S → ℕ → Result Flow TextFault →
    Type 0
TakesByte p old new byte result =
    (before : List ℕ) → Fed p anything old before → HasCome p anything new (before ++ byte ∷ []) result

-- whether a byte ends the open word or token
abbrev pub ends_at : ℕ → LineState → Bool
ends_at byte places.Word = not (is_word_byte byte)
ends_at byte places.Token = is_blank byte || byte == LF
ends_at byte (places.MinusOne on_line) = is_blank byte || byte == LF
ends_at byte _ = false

-- a byte that does not end the open word or token
abbrev pub TakesSettled : {V S : Type 0} → Promise V S → PieceReader S → PieceReader S → ℕ → Result Flow TextFault →
    Type 0
TakesSettled p old new byte result =
    (before : List ℕ) → Fed p (this byte) old before → HasCome p anything new (before ++ byte ∷ []) result

-- a byte after a token that the reader does not store
abbrev pub TakesWhole : {V S : Type 0} → Promise V S → List ℕ → PieceReader S → PieceReader S → ℕ →
    Result Flow TextFault → Type 0
TakesWhole p token old new byte result =
    (before : List ℕ) → IsInSection p (this byte) old token before → HasCome p anything new (before ++ byte ∷ []) result

-- the state of a reader after the first of these bytes
abbrev pub HasRun : {V S : Type 0} → Promise V S → PieceReader S → List ℕ → List ℕ → Result FeedResult TextFault → Type
    0
HasRun p new before bytes (Ok (Taken n)) = (n ≤ length bytes) × Fed p anything new (before ++ take n bytes)
HasRun p new before bytes (Ok Done) =
    (n : ℕ) × (n ≤ length bytes) × HasCome p anything new (before ++ take n bytes) (Ok Whole)
HasRun p new before bytes (Err f) =
    (n : ℕ) × (n ≤ length bytes) × HasCome p anything new (before ++ take n bytes) (Err f)

abbrev pub TakesRun : {V S : Type 0} → Promise V S → PieceReader S → PieceReader S → List ℕ → Result FeedResult
    TextFault →
    Type 0
TakesRun p old new bytes result = (before : List ℕ) → Fed p anything old before → HasRun p new before bytes result

-- ---- the ends of words, headers and tokens

-- no word or token is open
abbrev pub IsSettled : LineState → Type 0
IsSettled places.Word = ⊥
IsSettled places.Token = ⊥
IsSettled (places.MinusOne on_line) = ⊥
IsSettled _ = Unit {0}

-- the open word or token is ended, if the bytes that follow satisfy `end`
abbrev pub Closes : {V S : Type 0} → Promise V S → Next → PieceReader S → PieceReader S → Result Flow TextFault →
    Type 0
Closes p end old new result =
    (next : Next) (before : List ℕ) → Within next end → Fed p next old before → HasCome p next new before result

-- the bytes that follow end the word or token that is open in this state
abbrev pub EndsPlace : Next → LineState → Type 0
EndsPlace next places.Word = Within next no_word
EndsPlace next places.Token = Within next a_gap
EndsPlace next (places.MinusOne on_line) = Within next a_gap
EndsPlace next _ = Unit {0}

abbrev pub ClosesPlace : {V S : Type 0} → Promise V S → PieceReader S → PieceReader S → Result Flow TextFault → Type 0
ClosesPlace p old new result =
    (next : Next) (before : List ℕ) → EndsPlace next old.place → Fed p next old before
    → HasCome p next new before result

-- the end of a token that the reader does not store
abbrev pub EndsToken : {V S : Type 0} → Promise V S → List ℕ → PieceReader S → PieceReader S →
    Result Flow TextFault → Type 0
EndsToken p token old new result =
    (next : Next) (before : List ℕ) → Within next a_gap → IsUnbroken token → IsInSection p next old token before
    → HasCome p next new before result

-- the header of this word is taken or rejected
abbrev pub HasClosed : {V S : Type 0} → Promise V S → Next → Keyword → List ℕ → PieceReader S → List ℕ →
    Result (Unit {0}) TextFault → Type 0
HasClosed p next word held new before (Ok _) = HeaderTaken p.format p.holds next new.form new.line held word before
HasClosed p next word held new before (Err f) = IsFaultWith (DecidesIf p.format next before) f

abbrev pub ClosesHeader : {V S : Type 0} → Promise V S → Keyword → PieceReader S → PieceReader S →
    Result (Unit {0}) TextFault → Type 0
ClosesHeader p word old new result =
    (next : Next) (before : List ℕ) → Within next a_line_end → Fed p next old before
    → HasClosed p next word old.held new before result

-- ---- the end of the text

-- the result of a text that consists of these bytes
abbrev pub IsAnswered : {V : Type 0} → Format V → List ℕ → Result V TextFault → Type 0
IsAnswered f before a = decided_by f true before ≡ Some a

-- the form has the complete value of the text, or the text is rejected
abbrev pub HasFinished : {V S : Type 0} → Promise V S → PieceReader S → List ℕ → Result (Unit {0}) TextFault → Type 0
HasFinished p new before (Ok _) = IsAnswered p.format before (Ok (p.held new.form)) × p.complete new.form
HasFinished p new before (Err f) = IsFaultWith (IsAnswered p.format before) f

abbrev pub Finishes : {V S : Type 0} → Promise V S → PieceReader S → PieceReader S → Result (Unit {0}) TextFault →
    Type 0
Finishes p old new result = (before : List ℕ) → Fed p at_end old before → HasFinished p new before result
