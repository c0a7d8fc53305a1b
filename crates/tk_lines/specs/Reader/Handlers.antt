-- The guarantees of a form, which handles the headers and sections of a format.
use Rattle.std.specs.Prelude.{◌≡◌, ◌<◌, ◌≤◌, ℕ, ◌+◌, true, false, List, [], ◌∷◌, ◌++◌, length, take, Some, None}
use Rattle.tk_words.specs.declared.keyword.Keyword.{Keyword}
use Rattle.tk_words.specs.declared.fault.TextKind.{TextKind}
use Rattle.tk_words.specs.declared.fault.TextKind.TheVariants as kinds
use Rattle.tk_lines.specs.declared.handler.Taken.{Taken}
use Rattle.tk_lines.specs.declared.handler.Taken.TheVariants as takens
use Rattle.tk_words.specs.Lex.{Token}
use Rattle.tk_lines.specs.Pieces.{Piece, Header, Section, After, Clean, Trailing, Early, Open, Fault, Format}
use Rattle.tk_words.specs.MinusOne.{one_more}

-- the kind of a fault satisfies P, unless memory ran out; it is not Read
abbrev pub IsReportedWord : (TextKind → Type 0) → TextKind → Type 0
IsReportedWord P kinds.NoMemory = Unit {0}
IsReportedWord P kinds.Read = ⊥
IsReportedWord P k = P k

-- the guarantees of a form: the format that it reads; the pieces that it has taken, none of which has a fault; those
-- pieces and the tokens of a section whose word is on this line; its value; and when that value is complete
pub record Promise (V S : Type 0) : Type 1 where
  pub format : Format V
  pub holds : S → List Piece → Type 0
  pub wants : S → List Piece → Keyword → ℕ → List Token → Type 0
  pub held : S → V
  pub complete : S → Type 0

-- the pieces that a form has taken, none of which has a fault
abbrev pub Holding : Type 0 → Type 1
Holding S = S → List Piece → Type 0

-- the pieces that a form has taken, and the tokens of a section whose word is on this line
abbrev pub Wanting : Type 0 → Type 1
Wanting S = S → List Piece → Keyword → ℕ → List Token → Type 0

abbrev pub whole : List ℕ → ℕ → Token
whole bs n = record { bytes = bs; line = n; whole = true }

abbrev pub a_header : Keyword → List ℕ → ℕ → List Piece
a_header word v n = Header word (whole v n) ∷ []

abbrev pub a_section : Keyword → ℕ → List Token → After → List Piece
a_section word n toks after = Section word n toks after ∷ []

-- the tokens that belong to a section, out of all tokens after its word
abbrev pub taken : {V : Type 0} → Format V → List Piece → Keyword → List Token → List Token
taken f before word toks = take (f.extent before word toks).count toks

-- a section that continues after these tokens
pub record Goes {V : Type 0} (f : Format V) (before : List Piece) (word : Keyword) (n : ℕ)
    (toks : List Token) : Type 0 where
  pub covers : (more : List Token) → length toks ≤ (f.extent before word (toks ++ more)).count
  pub long : (t : Token) (more : List Token) (after : After) → 64 < length t.bytes →
      f.section before word n (taken f before word (toks ++ t ∷ more)) after ≡ Some (Fault t.line kinds.TooLong)
  pub opens : (t : Token) (after : After) → t.whole ≡ false → length t.bytes ≤ 64 →
      f.section before word n (taken f before word (toks ++ t ∷ [])) after ≡ Some Open
  pub ends : f.extent before word toks ≡ record { count = length toks; closed = false; at_eof = false }
  pub early : (line : ℕ) → f.section before word n toks (Early line false) ≡ None

-- a section that ends with these tokens
pub record Closed {V : Type 0} (f : Format V) (before : List Piece) (word : Keyword) (n : ℕ)
    (toks : List Token) : Type 0 where
  pub extent : (more : List Token) →
      f.extent before word (toks ++ more) ≡ record { count = length toks; closed = true; at_eof = false }
  pub clean : f.section before word n toks Clean ≡ None
  pub trailing : (line : ℕ) → f.section before word n toks (Trailing line) ≡ Some (Fault line kinds.TrailingData)

-- a section that ends with these tokens, and with one more -1 if that comes next
pub record EndsWithMinusOne {V : Type 0} (f : Format V) (before : List Piece) (word : Keyword) (n : ℕ)
    (toks : List Token) : Type 0 where
  pub extent : (more : List Token) → f.extent before word (toks ++ more)
      ≡ record { count = length toks + one_more more; closed = true; at_eof = false }
  pub clean : (ones : List Token) → f.section before word n (toks ++ ones) Clean ≡ None
  pub trailing : (ones : List Token) (line : ℕ) →
      f.section before word n (toks ++ ones) (Trailing line) ≡ Some (Fault line kinds.TrailingData)

-- a section that ends before an EOF
pub record EndsAtEof {V : Type 0} (f : Format V) (before : List Piece) (word : Keyword) (n : ℕ) (toks : List Token)
    (t : Token) : Type 0 where
  pub extent : (more : List Token) →
      f.extent before word (toks ++ t ∷ more) ≡ record { count = length toks; closed = false; at_eof = true }
  pub early : f.section before word n toks (Early t.line true) ≡ None

-- the effect of a token on a section
abbrev pub HasTakenToken : {V : Type 0} → Format V → (List Piece → Type 0) →
    (List Piece → Keyword → ℕ → List Token → Type 0) → List Piece → Keyword → ℕ → List Token → Token → Taken → Type 0
HasTakenToken f holds wants before word n toks t takens.More =
    wants before word n (toks ++ t ∷ []) × Goes f before word n (toks ++ t ∷ [])
HasTakenToken f holds wants before word n toks t takens.Last =
    holds (before ++ a_section word n (toks ++ t ∷ []) Clean) × Closed f before word n (toks ++ t ∷ [])
HasTakenToken f holds wants before word n toks t takens.Ending =
    ((ones : List Token) → holds (before ++ a_section word n ((toks ++ t ∷ []) ++ ones) Clean))
    × EndsWithMinusOne f before word n (toks ++ t ∷ [])
HasTakenToken f holds wants before word n toks t takens.Eof =
    holds (before ++ a_section word n toks (Early t.line true)) × EndsAtEof f before word n toks t

-- a section stops at a token, whatever follows it
abbrev pub StopsAt : {V : Type 0} → Format V → List Piece → Keyword → ℕ → List Token → Token → TextKind → Type 0
StopsAt f before word n toks t k =
    (more : List Token) (after : After) →
    f.section before word n (taken f before word (toks ++ t ∷ more)) after ≡ Some (Fault t.line k)
