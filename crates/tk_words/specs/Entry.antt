-- How a token is read where a number is expected.
use Rattle.std.specs.Prelude.{◌≡◌, ◌≤◌, pos, true, false, List, ℕ, Some, None, Bool, not, ◌&&◌, ◌==◌, nat_le, [], ◌∷◌}
use Rattle.std.specs.Prelude.{Option, ℤ, if◌then◌else◌, is_none}
use Rattle.tk_words.specs.declared.numbers.entries.Entry.{Entry}
use Rattle.tk_words.specs.declared.numbers.entries.Entry.TheVariants as entries
use Rattle.tk_words.specs.Lex.{integer, Token}
use Rattle.tk_words.specs.declared.keyword.Keyword.{Keyword}
use Rattle.tk_words.specs.declared.keyword.Keyword.TheVariants as words
use Rattle.tk_words.specs.declared.fault.TextKind.{TextKind}
use Rattle.tk_words.specs.declared.fault.TextKind.TheVariants as kinds
use Rattle.tk_words.specs.Words.{keyword_of, same_word}

-- the token without a colon at its end
abbrev pub without_colon : List ℕ → List ℕ
without_colon [] = []
without_colon (b ∷ []) = if b == 58 then [] else b ∷ []
without_colon (b ∷ c ∷ bs) = b ∷ without_colon (c ∷ bs)

abbrev pub is_some_word : Option Keyword → Bool
is_some_word None = false
is_some_word (Some word) = true

abbrev pub is_eof_word : Option Keyword → Bool
is_eof_word None = false
is_eof_word (Some word) = same_word word words.Eof

-- whether a token is a keyword, such as EOF, instead of a number
abbrev pub is_keyword : List ℕ → Bool
is_keyword bs = is_some_word (keyword_of (without_colon bs))

abbrev pub is_eof : List ℕ → Bool
is_eof bs = is_eof_word (keyword_of (without_colon bs))

abbrev pub in_range : ℕ → ℕ → Option ℤ → Bool
in_range low high (Some (pos n)) = nat_le low n && nat_le n high
in_range low high _ = false

-- the tests of an integer within limits
abbrev pub number_tests : ℕ → ℕ → List ℕ → List (Bool × TextKind)
number_tests low high bs =
    (is_none (integer bs), kinds.BadNumber) ∷ (not (in_range low high (integer bs)), kinds.OutOfLimit) ∷ []

abbrev pub natural_or_zero : Option ℤ → ℕ
natural_or_zero (Some (pos n)) = n
natural_or_zero _ = 0

abbrev pub numbers_of : List Token → List ℕ
numbers_of [] = []
numbers_of (t ∷ ts) = natural_or_zero (integer t.bytes) ∷ numbers_of ts

-- an integer is not a keyword, and a keyword is not an integer
abbrev pub IsEntry : List ℕ → Entry → Type 0
IsEntry bs (entries.Number z) = (integer bs ≡ Some z) × (is_keyword bs ≡ false) × (is_eof bs ≡ false)
IsEntry bs entries.Eof = (integer bs ≡ None) × (is_keyword bs ≡ true) × (is_eof bs ≡ true)
IsEntry bs entries.Word = (integer bs ≡ None) × (is_keyword bs ≡ true) × (is_eof bs ≡ false)
IsEntry bs entries.Other = (integer bs ≡ None) × (is_keyword bs ≡ false) × (is_eof bs ≡ false)

-- bytes are this number, which is within the limits
pub record IsNumber (low high : ℕ) (bs : List ℕ) (n : ℕ) : Type 0 where
  pub is : integer bs ≡ Some (pos n)
  pub above : low ≤ n
  pub below : n ≤ high
