-- The contents of a line of a parameter file, whatever comes before it: a key and the bytes of its value.
use Rattle.std.specs.Prelude.{ℕ, not, ◌==◌, nat_lt, List, [], ◌∷◌, length, Option, Some, None, if◌then◌else◌, codes}
use Rattle.tk_words.specs.Lex.{is_blank, is_letter, is_word_byte, front, behind, trim}
use Rattle.tk_words.specs.Words.{spells}
use Rattle.tk_params.specs.declared.key.Key.{Key}
use Rattle.tk_params.specs.declared.fault.ParamKind.{ParamKind}
use Rattle.tk_params.specs.declared.fault.ParamKind.TheVariants as kinds
use Rattle.tk_params.specs.Keys.{key_of}

-- the contents of a line: nothing that is used; a fault; or a key and the bytes of its value
pub data Entry : Type 0 where
  Blank : Entry
  Wrong : (kind : ParamKind) → Entry
  Says : (key : Key) (value : List ℕ) → Entry

-- the bytes without an equals sign at their front
abbrev pub without_equals : List ℕ → List ℕ
without_equals [] = []
without_equals (b ∷ bs) = if b == 61 then bs else b ∷ bs

-- the value after a key: what follows blanks and at most one equals sign, without outer blanks
abbrev pub value_behind : List ℕ → List ℕ
value_behind bs = trim (without_equals (behind is_blank bs))

abbrev pub key_entry : Option Key → List ℕ → Entry
key_entry None rest = Wrong kinds.UnknownKey
key_entry (Some key) rest = Says key (value_behind rest)

-- the contents of a line, given its first word and the bytes after it
unfoldable pub word_entry : List ℕ → List ℕ → Entry
word_entry word rest =
    if nat_lt 64 (length word) then Wrong kinds.TooLong
    else (if spells word (codes "COMMENT") then Blank
    else key_entry (key_of word) rest)

-- the contents of a line, given without leading blanks
unfoldable pub entry_of : List ℕ → Entry
entry_of [] = Blank
entry_of (b ∷ bs) =
    if b == 35 then Blank
    else (if not (is_letter b) then Wrong kinds.UnknownKey
    else word_entry (front is_word_byte (b ∷ bs)) (behind is_word_byte (b ∷ bs)))
