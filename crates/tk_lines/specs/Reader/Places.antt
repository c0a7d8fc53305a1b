-- The state of a reader within a text.
use Rattle.std.specs.Prelude.{◌≡◌, ◌<◌, ◌≤◌, ℕ, Bool, true, false, not, ◌||◌, ◌==◌, List, [], ◌∷◌, ◌++◌, length, Option}
use Rattle.std.specs.Prelude.{Some, None, Result}
use Rattle.tk_words.specs.declared.keyword.Keyword.{Keyword}
use Rattle.tk_words.specs.declared.fault.TextFault.{TextFault}
use Rattle.tk_lines.specs.declared.value_scanner.ValueScanner.{ValueScanner}
use Rattle.tk_lines.specs.declared.line_state.LineState.{LineState}
use Rattle.tk_lines.specs.declared.line_state.LineState.TheVariants as places
use Rattle.tk_lines.specs.declared.reader.PieceReader.{PieceReader}
use Rattle.tk_words.specs.Lex.{LF, Token, is_blank, is_letter, is_word_byte, behind, IsUnbroken}
use Rattle.tk_words.specs.Words.{keyword_of, role}
use Rattle.tk_words.specs.declared.keyword.Role.TheVariants.{BeginsHeader, BeginsSection}
use Rattle.tk_lines.specs.Pieces.{Piece, Header, stop, Clean, Format, ended, decided_by, last_line}
use Rattle.tk_lines.specs.Reader.FromMiddle.{from_line, in_section}
use Rattle.tk_words.specs.MinusOne.{begins_minus_one}
use Rattle.tk_lines.specs.Reader.ValueScanner.{Scans}
use Rattle.tk_lines.specs.Reader.Handlers.{Promise, Goes, Closed, EndsWithMinusOne, Holding, Wanting, a_section}
use Rattle.tk_lines.specs.Reader.Handlers.{a_header}
use Rattle.tk_lines.specs.Reader.Handlers.{whole}
use Rattle.tk_words.specs.Texts.{line_behind}

-- a condition on the bytes that follow; the flag is true if the text ends after them
abbrev pub Next : Type 0
Next = Bool → List ℕ → Bool

abbrev pub anything : Next
anything e more = true

-- this byte comes next
abbrev pub this : ℕ → Next
this b e [] = false
this b e (c ∷ more) = c == b

-- a byte that ends a token, or the end of the text
abbrev pub a_gap : Next
a_gap e [] = e
a_gap e (b ∷ more) = is_blank b || b == LF

-- a byte that does not continue a word, or the end of the text
abbrev pub no_word : Next
no_word e [] = e
no_word e (b ∷ more) = not (is_word_byte b)

abbrev pub at_end : Next
at_end e [] = e
at_end e (b ∷ more) = false

-- the end of a line, or the end of the text
abbrev pub a_line_end : Next
a_line_end e [] = e
a_line_end e (b ∷ more) = b == LF

abbrev pub Within : Next → Next → Type 0
Within next other = (e : Bool) (more : List ℕ) → next e more ≡ true → other e more ≡ true

-- if the bytes that follow satisfy `next`, g is the result of the text
abbrev pub Says : {V : Type 0} → Format V → Next → List ℕ → (Bool → List ℕ → Option (Result V TextFault)) → Type 0
Says f next bs g = (e : Bool) (more : List ℕ) → next e more ≡ true → decided_by f e (bs ++ more) ≡ g e more

abbrev pub DecidesIf : {V : Type 0} → Format V → Next → List ℕ → Result V TextFault → Type 0
DecidesIf f next bs a = Says f next bs (λ e more. Some a)

-- bytes that are one word: it begins with a letter and is not too long
abbrev pub IsWord : List ℕ → Type 0
IsWord [] = ⊥
IsWord (b ∷ t) = (is_letter b ≡ true) × (behind is_word_byte (b ∷ t) ≡ []) × (length (b ∷ t) ≤ 64)

-- on a line outside the sections, after its bytes `pre`
pub record AtLine {V S : Type 0} (f : Format V) (H : Holding S) (next : Next) (form : S) (line : ℕ) (pre : List ℕ)
    (bs : List ℕ) : Type 0 where
  pub before : List Piece
  pub upto : ℕ
  pub holds : H form before
  pub lt : upto < line
  pub same : Says f next bs (λ e more. from_line f before upto pre e line more)

-- after the word of a line
pub record AtTail {V : Type 0} (f : Format V) (next : Next) (line : ℕ) (held : List ℕ) (word : Keyword)
    (before : List Piece) (tail : List ℕ) (bs : List ℕ) : Type 0 where
  pub upto : ℕ
  pub lt : upto < line
  pub is_word : IsWord held
  pub word_is : keyword_of held ≡ Some word
  pub settled : (e : Bool) (more : List ℕ) → next e more ≡ true → no_word e (tail ++ more) ≡ true
  pub same : Says f next bs (λ e more. from_line f before upto (held ++ tail) e line more)

pub record AtValue {V S : Type 0} (f : Format V) (H : Holding S) (next : Next) (form : S) (line : ℕ) (held : List ℕ)
    (word : Keyword) (scan : ValueScanner) (bs : List ℕ) : Type 0 where
  pub before : List Piece
  pub tail : List ℕ
  pub at : AtTail f next line held word before tail bs
  pub header : role word ≡ BeginsHeader
  pub holds : H form before
  pub scans : Scans scan tail
  pub short : length tail ≤ 4096

pub record AtBegin {V S : Type 0} (f : Format V) (W : Wanting S) (next : Next) (form : S) (line : ℕ) (held : List ℕ)
    (bs : List ℕ) : Type 0 where
  pub word : Keyword
  pub before : List Piece
  pub tail : List ℕ
  pub at : AtTail f next line held word before tail bs
  pub section : role word ≡ BeginsSection
  pub wants : W form before word line []
  pub goes : Goes f before word line []
  pub blank : behind is_blank tail ≡ []

abbrev pub IsToken : List ℕ → Type 0
IsToken held = IsUnbroken held × (length held ≤ 64)

-- in a section, after these tokens and the bytes `pre` of the next one
pub record AtToken {V S : Type 0} (f : Format V) (W : Wanting S) (next : Next) (form : S) (line : ℕ) (pre : List ℕ)
    (bs : List ℕ) : Type 0 where
  pub before : List Piece
  pub word : Keyword
  pub first : ℕ
  pub toks : List Token
  pub wants : W form before word first toks
  pub goes : Goes f before word first toks
  pub same : Says f next bs (λ e more. in_section f before word first toks pre e line more)

-- after the last token of a section, on its line
pub record AtClose {V S : Type 0} (f : Format V) (H : Holding S) (next : Next) (form : S) (line : ℕ)
    (bs : List ℕ) : Type 0 where
  pub before : List Piece
  pub word : Keyword
  pub first : ℕ
  pub toks : List Token
  pub holds : H form (before ++ a_section word first toks Clean)
  pub closed : Closed f before word first toks
  pub last : last_line first toks ≡ line
  pub same : Says f next bs (λ e more. in_section f before word first toks [] e line more)

abbrev pub IsLastLine : Bool → ℕ → ℕ → Type 0
IsLastLine true last line = last ≡ line
IsLastLine false last line = last < line

-- after the -1 that ends a section, on the line of the -1 or on a later one
pub record AtAfter {V S : Type 0} (f : Format V) (H : Holding S) (next : Next) (form : S) (line : ℕ) (on_line : Bool)
    (pre : List ℕ) (bs : List ℕ) : Type 0 where
  pub before : List Piece
  pub word : Keyword
  pub first : ℕ
  pub toks : List Token
  pub holds : (ones : List Token) → H form (before ++ a_section word first (toks ++ ones) Clean)
  pub ends : EndsWithMinusOne f before word first toks
  pub last : IsLastLine on_line (last_line first toks) line
  pub same : Says f next bs (λ e more. in_section f before word first toks pre e line more)

-- bytes after the -1 that begin a second -1
abbrev pub IsMore : List ℕ → Type 0
IsMore held = IsUnbroken held × (begins_minus_one held ≡ true)

abbrev pub AtPlace : {V S : Type 0} → Format V → Holding S → Wanting S → Next → S → ℕ → List ℕ → ValueScanner → List ℕ →
    LineState →
    Type 0
AtPlace f holds wants next form line held scan bs places.Start = AtLine f holds next form line [] bs
AtPlace f holds wants next form line held scan bs places.Word = IsWord held × AtLine f holds next form line held bs
AtPlace f holds wants next form line held scan bs (places.Value word) = AtValue f holds next form line held word scan bs
AtPlace f holds wants next form line held scan bs places.Begin = AtBegin f wants next form line held bs
AtPlace f holds wants next form line held scan bs places.Gap = AtToken f wants next form line [] bs
AtPlace f holds wants next form line held scan bs places.Token = IsToken held × AtToken f wants next form line held bs
AtPlace f holds wants next form line held scan bs places.Close = AtClose f holds next form line bs
AtPlace f holds wants next form line held scan bs (places.After on_line) = AtAfter f holds next form line on_line [] bs
AtPlace f holds wants next form line held scan bs (places.MinusOne on_line) =
    IsMore held × AtAfter f holds next form line on_line held bs

-- the reader has taken these bytes, and is in the right state if the bytes that follow satisfy `next`
pub record Fed {V S : Type 0} (p : Promise V S) (next : Next) (reader : PieceReader S) (bs : List ℕ) : Type 0 where
  pub line : reader.line ≡ line_behind bs
  pub at : AtPlace p.format p.holds p.wants next reader.form reader.line reader.held reader.scan bs reader.place

-- in a section, the bytes end with this token, which the reader does not store
pub record IsInSection {V S : Type 0} (p : Promise V S) (next : Next) (reader : PieceReader S)
    (token bs : List ℕ) : Type 0 where
  pub line : reader.line ≡ line_behind bs
  pub at : AtToken p.format p.wants next reader.form reader.line token bs

-- the form has taken a header, whose line ends next
pub record HeaderTaken {V S : Type 0} (f : Format V) (H : Holding S) (next : Next) (form : S) (line : ℕ) (held : List ℕ)
    (word : Keyword) (bs : List ℕ) : Type 0 where
  pub before : List Piece
  pub tail : List ℕ
  pub at : AtTail f next line held word before tail bs
  pub header : role word ≡ BeginsHeader
  pub holds : H form (before ++ a_header word tail line)
  pub none : stop f before (Header word (whole tail line)) ≡ None

-- the bytes have ended, and no word, token or section is open
pub record AtEnd {V S : Type 0} (f : Format V) (H : Holding S) (form : S) (line : ℕ) (bs : List ℕ) : Type 0 where
  pub before : List Piece
  pub holds : H form before
  pub same : decided_by f true bs ≡ ended f before line true (f.at_end before)
