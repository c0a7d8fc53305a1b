-- Bytes, lines and tokens.
use Rattle.std.specs.Prelude.{ℕ, suc, ◌+◌, ◌-◌, ◌*◌, Bool, true, false, not, ◌&&◌, ◌||◌, ◌==◌, nat_lt, nat_le, List, []}
use Rattle.std.specs.Prelude.{◌∷◌, ◌++◌, length, Option, Some, None, ℤ, pos, neg_ℤ, if◌then◌else◌, ◌≡◌}
use Rattle.std.specs.Char.{is_ascii_digit}

abbrev pub LF : ℕ
LF = 10

-- space, tab and CR
abbrev pub is_blank : ℕ → Bool
is_blank b = b == 32 || b == 9 || b == 13

abbrev pub is_letter : ℕ → Bool
is_letter b = nat_le 65 b && nat_le b 90 || nat_le 97 b && nat_le b 122

-- letters, digits and the underscore
abbrev pub is_word_byte : ℕ → Bool
is_word_byte b = is_letter b || is_ascii_digit b || b == 95

-- the longest front whose bytes satisfy p
abbrev pub front : (ℕ → Bool) → List ℕ → List ℕ
front p [] = []
front p (b ∷ bs) = if p b then b ∷ front p bs else []

-- the bytes after the longest front whose bytes satisfy p
abbrev pub behind : (ℕ → Bool) → List ℕ → List ℕ
behind p [] = []
behind p (b ∷ bs) = if p b then behind p bs else b ∷ bs

abbrev pub is_empty : {A : Type 0} → List A → Bool
is_empty [] = true
is_empty (x ∷ xs) = false

-- a line without its LF; the last line is whole if the text ends with it, and not if more bytes may follow
pub record Line : Type 0 where
  pub number : ℕ
  pub bytes : List ℕ
  pub whole : Bool

abbrev pub onto_line : ℕ → List Line → List Line
onto_line b [] = []
onto_line b (l ∷ ls) = record l { bytes = b ∷ l.bytes } ∷ ls

-- the lines of bytes that begin on line n; ended: no bytes follow them
unfoldable pub lines : Bool → ℕ → List ℕ → List Line
lines ended n [] = record { number = n; bytes = []; whole = ended } ∷ []
lines ended n (b ∷ bs) =
    let rest = lines ended (if b == LF then suc n else n) bs in
    if b == LF then record { number = n; bytes = []; whole = true } ∷ rest else onto_line b rest

-- bytes of a line without a blank between them; whole: no more bytes can continue them
pub record Token : Type 0 where
  pub bytes : List ℕ
  pub line : ℕ
  pub whole : Bool

abbrev pub onto_token : ℕ → List Token → List Token
onto_token b [] = []
onto_token b (t ∷ ts) = record t { bytes = b ∷ t.bytes } ∷ ts

-- whether a token continues with the next byte
abbrev pub goes_on : List ℕ → Bool
goes_on [] = false
goes_on (b ∷ bs) = not (is_blank b)

-- the tokens of a line: its longest runs without blanks
unfoldable pub tokens_of : Bool → ℕ → List ℕ → List Token
tokens_of whole n [] = []
tokens_of whole n (b ∷ bs) =
    let rest = tokens_of whole n bs in
    if is_blank b then rest
    else (if goes_on bs then onto_token b rest else record
    { bytes = b ∷ []; line = n; whole = whole || not (is_empty bs) } ∷ rest)

abbrev pub tokens : List Line → List Token
tokens [] = []
tokens (l ∷ ls) = tokens_of l.whole l.number l.bytes ++ tokens ls

-- the bytes without a colon at their front
abbrev pub without_colon_before : List ℕ → List ℕ
without_colon_before [] = []
without_colon_before (b ∷ bs) = if b == 58 then bs else b ∷ bs

-- the bytes after a word, without the blanks and the colon at their front
abbrev pub after_word : List ℕ → List ℕ
after_word bs = without_colon_before (behind is_blank bs)

-- the bytes without the blanks at their end
abbrev pub trim_end : List ℕ → List ℕ
trim_end [] = []
trim_end (b ∷ bs) = let rest = trim_end bs in if is_blank b && is_empty rest then [] else b ∷ rest

abbrev pub trim : List ℕ → List ℕ
trim bs = trim_end (behind is_blank bs)

-- ---- numbers

-- the number that the digits of n, followed by these digits, spell; None for other bytes
abbrev pub digits : ℕ → List ℕ → Option ℕ
digits n [] = Some n
digits n (b ∷ bs) = let rest = digits (n * 10 + (b - 48)) bs in if is_ascii_digit b then rest else None

-- the number that 1 to 18 digits spell
abbrev pub natural : List ℕ → Option ℕ
natural bs = if is_empty bs || nat_lt 18 (length bs) then None else digits 0 bs

abbrev pub signed : (ℕ → ℤ) → Option ℕ → Option ℤ
signed f None = None
signed f (Some n) = Some (f n)

-- the integer that an optional sign and 1 to 18 digits spell
abbrev pub integer : List ℕ → Option ℤ
integer [] = None
integer (b ∷ bs) =
    if b == 45 then signed (λ n. neg_ℤ (pos n)) (natural bs)
    else (if b == 43 then signed pos (natural bs) else signed pos (natural (b ∷ bs)))

-- at least one byte, and none of them is a blank
abbrev pub IsUnbroken : List ℕ → Type 0
IsUnbroken [] = ⊥
IsUnbroken (b ∷ []) = is_blank b ≡ false
IsUnbroken (b ∷ c ∷ bs) = (is_blank b ≡ false) × IsUnbroken (c ∷ bs)
