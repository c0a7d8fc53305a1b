-- The value of a header: the bytes after its word and its colon.
use Rattle.std.specs.Prelude.{◌≡◌, ℕ, Bool, not, List, Some}
use Rattle.tk_words.specs.Entry.{number_tests}
use Rattle.tk_words.specs.Lex.{is_blank, front, behind, after_word}
use Rattle.tk_words.specs.declared.fault.TextKind.{TextKind}
use Rattle.tk_lines.specs.Pieces.{Fault, first_at}

abbrev pub not_blank : ℕ → Bool
not_blank b = not (is_blank b)

-- a header's value without leading blanks
abbrev pub body : List ℕ → List ℕ
body v = behind is_blank (after_word v)

-- the first word of a header's value
abbrev pub first_word : List ℕ → List ℕ
first_word v = front not_blank (body v)

-- the first fault of a value whose first word must be an integer within limits
abbrev pub IsNumberFault : ℕ → ℕ → ℕ → List ℕ → TextKind → Type 0
IsNumberFault low high line v kind = first_at line (number_tests low high (first_word v)) ≡ Some (Fault line kind)
