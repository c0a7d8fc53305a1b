-- Parameter texts (K. Helsgaun, LKH user guide; the limits and the keys are this project's).
use Rattle.std.specs.Prelude.{ℕ, ◌-◌, Bool, not, ◌&&◌, ◌||◌, nat_lt, List, [], ◌∷◌, ◌++◌, length, map}
use Rattle.std.specs.Prelude.{Option, Some, None, Result, Err, if◌then◌else◌, codes}
use Rattle.std.specs.Option.{ok_or}
use Rattle.tk_words.specs.Texts.{Cause, OfText, OfSource, OfMemory, Decided, Texts, answer_of}
use Rattle.tk_words.specs.Lex.{Line, is_blank, is_word_byte, is_empty, front, behind, lines}
use Rattle.tk_words.specs.Words.{spells}
use Rattle.tk_params.specs.declared.fault.ParamFault.{ParamFault}
use Rattle.tk_params.specs.declared.fault.ParamKind.{ParamKind}
use Rattle.tk_params.specs.declared.fault.ParamKind.TheVariants as kinds
use Rattle.tk_params.specs.Requested.{ParamsAre, requested}
use Rattle.tk_params.specs.Entries.{Entry, entry_of}
use Rattle.tk_params.specs.Values.{Settings, Meaning, Faulty, settings_of, means}

abbrev pub line_limit : ℕ
line_limit = 4096

-- the maximum number of bytes of a text
abbrev pub params_limit : ℕ
params_limit = 1048576

-- the answer to a text: its parameters, or a fault
abbrev pub Answer : Type 0
Answer = Result ParamsAre ParamFault

-- the first word of a line
abbrev pub word_of : List ℕ → List ℕ
word_of bs = front is_word_byte (behind is_blank bs)

-- the bytes after the first word of a line
abbrev pub behind_word : List ℕ → List ℕ
behind_word bs = behind is_word_byte (behind is_blank bs)

abbrev pub spells_eof : List ℕ → Bool
spells_eof word = spells word (codes "EOF")

-- whether the text ends at this line, whatever follows
abbrev pub is_end : Line → Bool
is_end l = spells_eof (word_of l.bytes) && (l.whole || not (is_empty (behind_word l.bytes)))

-- the number of bytes of a line that count; on the line of EOF, they are those up to the end of EOF
abbrev pub counted : Line → ℕ
counted l = length l.bytes - (if is_end l then length (behind_word l.bytes) else 0)

abbrev pub answer_at_end : ℕ → Settings → Answer
answer_at_end n before = ok_or (requested before) (record { line = n; kind = kinds.MissingProblem })

abbrev pub after : ℕ → Meaning → Option Answer → Option Answer
after n (Faulty kind) rest = Some (Err (record { line = n; kind = kind }))
after n _ rest = rest

-- a line of the text: one that is too long; that of EOF; one that later bytes may change; or its contents
pub data Piece : Type 0 where
  LongLine : (line : ℕ) → Piece
  End : (line : ℕ) → Piece
  Open : Piece
  Holds : (line : ℕ) (entry : Entry) → Piece

abbrev pub param_piece_of : Line → Piece
param_piece_of l =
    if nat_lt line_limit (counted l) then LongLine l.number
    else (if is_end l then End l.number
    else (if not l.whole then Open
    else Holds l.number (entry_of (behind is_blank l.bytes))))

abbrev pub param_pieces : List Line → List Piece
param_pieces ls = map param_piece_of ls

-- the answer to pieces, given the settings before them and the line n of the last piece before them; None if later
-- bytes decide
unfoldable pub judge_params : ℕ → Settings → List Piece → Option Answer
judge_params n before [] = Some (answer_at_end n before)
judge_params n before (LongLine line ∷ ps) = Some (Err (record { line = line; kind = kinds.TooLong }))
judge_params n before (End line ∷ ps) = Some (answer_at_end line before)
judge_params n before (Open ∷ ps) = None
judge_params n before (Holds line entry ∷ ps) =
    let meaning = means before entry in
    after line meaning (judge_params line (before ++ settings_of meaning) ps)

-- the answer to a text that begins with these bytes
unfoldable pub params_decided : Decided ParamsAre ParamFault
params_decided ended bs = judge_params 1 [] (param_pieces (lines ended 1 bs))

-- the cause of a fault
abbrev pub param_cause_of : ParamKind → Cause
param_cause_of kinds.NoMemory = OfMemory
param_cause_of kinds.Read = OfSource
param_cause_of _ = OfText

-- parameter texts
abbrev pub params_texts : Texts ParamsAre ParamFault
params_texts =
    record {
      decided = params_decided;
      limit = params_limit;
      too_long = λ n. record { line = n; kind = kinds.TooLong };
      cause = λ f. param_cause_of f.kind;
      line_of = λ f. f.line;
    }

-- the answer to a text
abbrev pub params_answer : List ℕ → Answer
params_answer text = answer_of params_texts text
