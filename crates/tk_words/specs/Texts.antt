-- The texts of a format: the answers that bytes decide, the answer to a text, and how far it is read.
--     Texts V E      the texts of a format, whose values are V and whose faults are E
--     answer_of texts text      the answer to a text
--     IsReadTo texts text rest      how far a text was read
--     IsAnswer texts text rest a      the answer of a reader
--     IsCutOff texts line text rest      how far a text was read when its source failed
--     IsFaultIfSpecified texts broken old new f      the meaning of a fault
--
-- A text is read from its front, and no further than its answer requires: if its first bytes contain a fault, or
-- complete it, the bytes after them are not read. Therefore, a format defines the answer that bytes decide in two
-- cases: no more bytes follow (`decided true`), or more may follow (`decided false`). In the second case, the last line
-- and its last token may go on: they are not `whole`. An answer is decided if no more bytes can change it; otherwise it
-- is `None`. The laws in TextLaws.antt are true of each format: every text has an answer, and a decided answer stays.
use Rattle.std.specs.Prelude.{◌≡◌, ◌≢◌, ℕ, suc, ◌≤◌, IfSome, Bool, true, false, nat_le, ◌==◌, count_by, List, []}
use Rattle.std.specs.Prelude.{◌++◌, length, take, Option, Some, None, Result, Ok, Err, if◌then◌else◌, unwrap_or}
use Rattle.tk_words.specs.declared.fault.TextKind.{TextKind}
use Rattle.tk_words.specs.declared.fault.TextKind.TheVariants as kinds
use Rattle.tk_words.specs.declared.fault.TextFault.{TextFault}
use Rattle.tk_words.specs.declared.sources.reading.TheConstants.{BUFFER_SIZE}

-- the cause of a fault
pub data Cause : Type 0 where
  OfText : Cause
  OfSource : Cause
  OfMemory : Cause

-- the answer that bytes decide, or None if more bytes decide it; true means that no more bytes follow
abbrev pub Decided : Type 0 → Type 0 → Type 0
Decided V E = Bool → List ℕ → Option (Result V E)

-- the texts of a format: the answers that bytes decide; the maximum number of bytes of a text; the fault of a longer
-- text, given the line of its first byte too many; and the cause and the line of each fault
pub record Texts (V E : Type 0) : Type 0 where
  pub decided : Decided V E
  pub limit : ℕ
  pub too_long : ℕ → E
  pub cause : E → Cause
  pub line_of : E → ℕ

-- ---- the faults of problem, tour and solution texts

abbrev pub cause_of : TextKind → Cause
cause_of kinds.NoMemory = OfMemory
cause_of kinds.Read = OfSource
cause_of _ = OfText

abbrev pub texts_of : {V : Type 0} → Decided V TextFault → ℕ → Texts V TextFault
texts_of decided limit =
    record {
      decided = decided;
      limit = limit;
      too_long = λ n. record { line = n; kind = kinds.TooLong };
      cause = λ f. cause_of f.kind;
      line_of = λ f. f.line;
    }

-- ---- decided answers

-- this is the answer, whatever comes after the bytes
abbrev pub Decides : {V E : Type 0} → Texts V E → List ℕ → Result V E → Type 0
Decides texts bs a = (ended : Bool) (more : List ℕ) → texts.decided ended (bs ++ more) ≡ Some a

-- this is the answer if no bytes follow
abbrev pub DecidesEnded : {V E : Type 0} → Texts V E → List ℕ → Result V E → Type 0
DecidesEnded texts bs a = texts.decided true bs ≡ Some a

-- this is the answer after the bytes before and some of these, whatever comes after them
abbrev pub DecidesWithin : {V E : Type 0} → Texts V E → List ℕ → List ℕ → Result V E → Type 0
DecidesWithin texts before bytes a = (n : ℕ) × (n ≤ length bytes) × Decides texts (before ++ take n bytes) a

-- one more than the number of LF bytes
abbrev pub line_behind : List ℕ → ℕ
line_behind bs = suc (count_by (λ b. b == 10) bs)

-- a fault of the text satisfies P, and for a fault of its source R is true; memory may run out at any time
abbrev pub IsReportedOf : {E : Type 0} → Type 0 → (E → Type 0) → E → Cause → Type 0
IsReportedOf R P f OfText = P f
IsReportedOf R P f OfSource = R
IsReportedOf R P f OfMemory = Unit {0}

-- a fault of the text, as an answer, satisfies P; memory may run out at any time, and the source does not fail
abbrev pub IsReported : {V E : Type 0} → Texts V E → (Result V E → Type 0) → E → Type 0
IsReported texts P f = IsReportedOf ⊥ (λ e. P (Err e)) f (texts.cause f)

-- ---- the answer to a text

-- the answer to a text; if the text is too long, only its bytes up to the first one too many count
unfoldable pub answer_of : {V E : Type 0} → Texts V E → List ℕ → Result V E
answer_of texts text =
    unwrap_or (if nat_le (length text) texts.limit then texts.decided true text
    else texts.decided false (take (suc texts.limit) text))
    (Err (texts.too_long (line_behind (take texts.limit text))))

-- every text that begins with the bytes has this answer
abbrev pub Answers : {V E : Type 0} → Texts V E → List ℕ → Result V E → Type 0
Answers texts bs a = (more : List ℕ) → answer_of texts (bs ++ more) ≡ a

-- some text has this answer
abbrev pub IsOfSomeText : {V E : Type 0} → Texts V E → Result V E → Type 0
IsOfSomeText texts a = (text : List ℕ) × (answer_of texts text ≡ a)

-- a fault of the text is the answer to some text
abbrev pub IsFaultOfSomeText : {V E : Type 0} → Texts V E → E → Type 0
IsFaultOfSomeText texts f = IsReportedOf (Unit {0}) (λ e. IsOfSomeText texts (Err e)) f (texts.cause f)

-- ---- how far a text is read

-- bytes after which more are needed: they do not decide the answer, and they are within the limit
pub record WantMore {V E : Type 0} (texts : Texts V E) (bs : List ℕ) : Type 0 where
  pub undecided : texts.decided false bs ≡ None
  pub within : length bs ≤ texts.limit

-- how far a text was read: to the end of the last read, of at most a buffer, before which more bytes were needed
pub record IsReadTo {V E : Type 0} (texts : Texts V E) (text rest : List ℕ) : Type 0 where
  pub before : List ℕ
  pub last : List ℕ
  pub parts : text ≡ (before ++ last) ++ rest
  pub wanted : WantMore texts before
  pub buffer : length last ≤ BUFFER_SIZE

-- the answer of a reader is that of the text, of which `rest` was not read; if `rest` is not empty, every text that
-- begins with the bytes read has this answer
pub record IsAnswer {V E : Type 0} (texts : Texts V E) (text rest : List ℕ) (a : Result V E) : Type 0 where
  pub read : IsReadTo texts text rest
  pub answer : answer_of texts text ≡ a
  pub unread : rest ≢ [] → Answers texts (read.before ++ read.last) a

-- the source failed when more bytes were needed, on this line
pub record IsCutOff {V E : Type 0} (texts : Texts V E) (line : ℕ) (text rest : List ℕ) : Type 0 where
  pub before : List ℕ
  pub parts : text ≡ before ++ rest
  pub wanted : WantMore texts before
  pub line_is : line ≡ line_behind before

-- if a source specifies its bytes, P is true of those that it had and those that it has left
abbrev pub IfSpecified : Option (List ℕ) → Option (List ℕ) → (List ℕ → List ℕ → Type 0) → Type 0
IfSpecified old new P = IfSome old (λ text. (rest : List ℕ) × (new ≡ Some rest) × P text rest)

abbrev pub IsAnswerIfSpecified : {V E : Type 0} → Texts V E → Option (List ℕ) → Option (List ℕ) → Result V E → Type 0
IsAnswerIfSpecified texts old new a = IfSpecified old new (λ text rest. IsAnswer texts text rest a)

-- a fault of the text, which is its answer; of its source, which has failed; or of memory, after the text was read this
-- far
abbrev pub IsFaultOf : {V E : Type 0} → Texts V E → Bool → Option (List ℕ) → Option (List ℕ) → E → Cause → Type 0
IsFaultOf texts broken old new f OfText = IsAnswerIfSpecified texts old new (Err f)
IsFaultOf texts broken old new f OfSource = (broken ≡ true) × IfSpecified old new (IsCutOff texts (texts.line_of f))
IsFaultOf texts broken old new f OfMemory = IfSpecified old new (IsReadTo texts)

abbrev pub IsFaultIfSpecified : {V E : Type 0} → Texts V E → Bool → Option (List ℕ) → Option (List ℕ) → E → Type 0
IsFaultIfSpecified texts broken old new f = IsFaultOf texts broken old new f (texts.cause f)

-- no read has failed, unless the fault is one of the source
abbrev pub IsIntact : {V E W : Type 0} → Texts V E → Bool → Bool → Result W E → Type 0
IsIntact texts old new (Ok v) = new ≡ old
IsIntact texts old new (Err f) = texts.cause f ≢ OfSource → new ≡ old
