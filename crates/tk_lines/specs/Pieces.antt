-- A text as a list of pieces.
use Rattle.std.specs.Prelude.{ℕ, Bool, true, false, not, ◌&&◌, ◌||◌, ◌==◌, nat_lt, nat_le, List, [], ◌∷◌, ◌++◌, length}
use Rattle.std.specs.Prelude.{take, get_or, Option, Some, None, Result, Ok, Err, if◌then◌else◌}
use Rattle.tk_words.specs.declared.keyword.Keyword.{Keyword}
use Rattle.tk_words.specs.declared.fault.TextKind.{TextKind}
use Rattle.tk_words.specs.declared.fault.TextKind.TheVariants as kinds
use Rattle.tk_words.specs.declared.fault.TextFault.{TextFault}
use Rattle.tk_words.specs.Lex.{lines, Line, Token, is_blank, is_letter, is_word_byte, is_empty, front, behind, tokens}
use Rattle.tk_words.specs.Lex.{tokens_of, after_word}
use Rattle.tk_words.specs.Words.{keyword_of, same_word, role}
use Rattle.tk_words.specs.declared.keyword.Role.{Role}
use Rattle.tk_words.specs.declared.keyword.Role.TheVariants.{BeginsHeader, BeginsSection, EndsText}

-- how the tokens of a section end: with nothing else on their last line; with more data on it; or unclosed, before a
-- token or the end of the bytes, which is on this line and is whole or may go on
pub data After : Type 0 where
  Clean : After
  Trailing : (line : ℕ) → After
  Early : (line : ℕ) (whole : Bool) → After

pub data Piece : Type 0 where
  -- a line outside the sections whose first byte that is not blank is not a letter
  Stray : (line : ℕ) → Piece
  -- a word that is too long; one that more bytes may continue; one that is not a keyword
  LongWord : (line : ℕ) → Piece
  OpenWord : (line : ℕ) → Piece
  Unknown : (line : ℕ) → Piece
  -- a header: its word, and the bytes between the word and the LF
  Header : (word : Keyword) (value : Token) → Piece
  -- a section: its word and the line of it, the tokens that belong to it, and how they end
  Section : (word : Keyword) (line : ℕ) (tokens : List Token) (after : After) → Piece
  -- EOF, or the end of the bytes
  End : (line : ℕ) (whole : Bool) → Piece

-- the end of the bytes, as an empty token on the last line
abbrev pub end_token : Line → List Line → Token
end_token l [] = record { bytes = []; line = l.number; whole = l.whole }
end_token l (k ∷ ls) = end_token k ls

-- the extent of a section, given the pieces before it and all tokens after its word: the number of its tokens, whether
-- they complete it, and whether an EOF ends it and the text
pub record Extent : Type 0 where
  pub count : ℕ
  pub closed : Bool
  pub at_eof : Bool

abbrev pub Extents : Type 0
Extents = List Piece → Keyword → List Token → Extent

abbrev pub last_line : ℕ → List Token → ℕ
last_line n [] = n
last_line n (t ∷ ts) = last_line t.line ts

abbrev pub after_tokens : ℕ → Bool → Token → After
after_tokens last closed next =
    if not closed then Early next.line next.whole
    else (if next.line == last && not (is_empty next.bytes) then Trailing last else Clean)

-- the pieces of a section: the section, and the end of the text if an EOF ends it
abbrev pub section_at : Extents → List Piece → Keyword → ℕ → List Token → Token → List Piece
section_at extent before word n toks end =
    let e = extent before word toks in
    let next = get_or toks e.count end in
    Section word n (take e.count toks) (after_tokens (last_line n (take e.count toks)) e.closed next)
    ∷ (if e.at_eof then End next.line true ∷ [] else [])

-- the pieces of a line, by the role of its word; tail is the rest of the line
abbrev pub piece_by : Extents → List Piece → Line → List Line → List ℕ → Keyword → Role → List Piece
piece_by extent before l ls tail word BeginsHeader =
    Header word (record { bytes = tail; line = l.number; whole = l.whole }) ∷ []
piece_by extent before l ls tail word BeginsSection =
    section_at extent before word l.number (tokens_of l.whole l.number (after_word tail) ++ tokens ls) (end_token l ls)
piece_by extent before l ls tail word EndsText = End l.number true ∷ []

abbrev pub piece_of : Extents → List Piece → Line → List Line → List ℕ → Option Keyword → List Piece
piece_of extent before l ls tail None = Unknown l.number ∷ []
piece_of extent before l ls tail (Some word) = piece_by extent before l ls tail word (role word)

-- the pieces that begin on a line, given its bytes after leading blanks; ls are the lines after it
abbrev pub pieces_at : Extents → List Piece → Line → List Line → List ℕ → List Piece
pieces_at extent before l ls [] = []
pieces_at extent before l ls (b ∷ bs) =
    let word = front is_word_byte (b ∷ bs) in
    let tail = behind is_word_byte (b ∷ bs) in
    if not (is_letter b) then Stray l.number ∷ []
    else (if nat_lt 64 (length word) then LongWord l.number ∷ []
    else (if not l.whole && is_empty tail then OpenWord l.number ∷ []
    else piece_of extent before l ls tail (keyword_of word)))

-- the last line of the last section among the pieces, or n if there is no section
abbrev pub covered : ℕ → List Piece → ℕ
covered n [] = n
covered n (Section word line toks after ∷ ps) = covered (last_line line toks) ps
covered n (p ∷ ps) = covered n ps

-- the pieces of the lines; lines up to number `upto` belong to the section before
unfoldable pub cut : Extents → List Piece → ℕ → List Line → List Piece
cut extent before upto [] = []
cut extent before upto (l ∷ ls) =
    let new = if nat_le l.number upto then [] else pieces_at extent before l ls (behind is_blank l.bytes) in
    new ++ cut extent (before ++ new) (covered upto new) ls

abbrev pub end_piece : List Line → List Piece
end_piece [] = []
end_piece (l ∷ ls) = let e = end_token l ls in End e.line e.whole ∷ []

-- all pieces of the lines
abbrev pub pieces : Extents → List Line → List Piece
pieces extent ls = cut extent [] 0 ls ++ end_piece ls

-- ---- looking up

abbrev pub has : Keyword → List Piece → Bool
has word [] = false
has word (Header w v ∷ ps) = same_word w word || has word ps
has word (Section w n toks after ∷ ps) = same_word w word || has word ps
has word (p ∷ ps) = has word ps

-- the bytes after the word of the first header with this word
abbrev pub value_of : Keyword → List Piece → Option (List ℕ)
value_of word [] = None
value_of word (Header w v ∷ ps) = let rest = value_of word ps in if same_word w word then Some v.bytes else rest
value_of word (p ∷ ps) = value_of word ps

abbrev pub tokens_in : Keyword → List Piece → List Token
tokens_in word [] = []
tokens_in word (Section w n toks after ∷ ps) = let rest = tokens_in word ps in if same_word w word then toks else rest
tokens_in word (p ∷ ps) = tokens_in word ps

-- ---- the first fault

-- why reading stops: a fault, or a decision that needs more bytes
pub data Stop : Type 0 where
  Open : Stop
  Fault : (line : ℕ) (kind : TextKind) → Stop

-- the fault of the first test that is true; tests of the same position are in their order of precedence
abbrev pub first_at : ℕ → List (Bool × TextKind) → Option Stop
first_at line [] = None
first_at line (t ∷ ts) = let rest = first_at line ts in if t.0 then Some (Fault line t.1) else rest

-- a token is too long; or more bytes may continue it; or one of the tests is true
abbrev pub checked : ℕ → Token → List (Bool × TextKind) → Option Stop
checked limit t tests =
    let rest = first_at t.line tests in
    if nat_lt limit (length t.bytes) then Some (Fault t.line kinds.TooLong)
    else (if not t.whole then Some Open else rest)

-- the first stop if there is one, otherwise the second
abbrev pub or_else : Option Stop → Option Stop → Option Stop
or_else None s = s
or_else (Some x) s = Some x

-- a format: the extents of its sections, the tests of a header by its word and the bytes after it, the stop at a
-- section, the fault at the end, and the value of a text
pub record Format (V : Type 0) : Type 0 where
  pub extent : Extents
  pub header : List Piece → Keyword → List ℕ → List (Bool × TextKind)
  pub section : List Piece → Keyword → ℕ → List Token → After → Option Stop
  pub at_end : List Piece → Option TextKind
  pub value : List Piece → V

-- the stop at a piece, if there is one
abbrev pub stop : {V : Type 0} → Format V → List Piece → Piece → Option Stop
stop f before (Stray line) = Some (Fault line kinds.TrailingData)
stop f before (LongWord line) = Some (Fault line kinds.TooLong)
stop f before (OpenWord line) = Some Open
stop f before (Unknown line) = Some (Fault line kinds.UnknownKeyword)
stop f before (Header word value) = checked 4096 value (f.header before word value.bytes)
stop f before (Section word n toks after) = f.section before word n toks after
stop f before (End line whole) = None

abbrev pub ended : {V : Type 0} → Format V → List Piece → ℕ → Bool → Option TextKind → Option (Result V TextFault)
ended f before line false kind = None
ended f before line true (Some kind) = Some (Err (record { line = line; kind = kind }))
ended f before line true None = Some (Ok (f.value before))

abbrev pub stopped : {V : Type 0} → Option Stop → Option (Result V TextFault) → Option (Result V TextFault)
stopped None rest = rest
stopped (Some Open) rest = None
stopped (Some (Fault line kind)) rest = Some (Err (record { line = line; kind = kind }))

-- the result of the pieces, a value or the first fault; None if bytes after them decide
unfoldable pub judge : {V : Type 0} → Format V → List Piece → List Piece → Option (Result V TextFault)
judge f before [] = None
judge f before (End line whole ∷ ps) = ended f before line whole (f.at_end before)
judge f before (p ∷ ps) = stopped (stop f before p) (judge f (before ++ p ∷ []) ps)

-- the result of a text that begins with these bytes; if the flag is true, no more bytes follow
unfoldable pub decided_by : {V : Type 0} → Format V → Bool → List ℕ → Option (Result V TextFault)
decided_by f e bs = judge f [] (pieces f.extent (lines e 1 bs))
