-- Numbers as they are written: read, they are the same numbers.
use Rattle.std.proofs.Common.{◌≡◌, ℕ, ◌+◌, ◌-◌, ◌*◌, ◌/◌, ◌%◌, ◌<◌, ◌≤◌, true, false, eqb, leb, ltb, List, [], ◌∷◌}
use Rattle.std.proofs.Common.{◌++◌, length, Some, pos, refl, ap, ◌∙◌, arith}
use Rattle.std.specs.Prelude.{codes, decimal, flat_map, map, unwrap_or}
use Rattle.std.specs.Char.{is_ascii_digit}
use Rattle.std.specs.List.{AllByRecursion}
use Rattle.std.proofs.lemmas.Fmt.{decimal_by_steps, length-decimal-le}
use Rattle.std.proofs.lemmas.Bool.{ne_eqb, le-leb, le-ltb}
use Rattle.std.proofs.lemmas.List.{append-nil}
use Rattle.tk_words.specs.Lex.{Token, is_blank, is_empty, digits, integer, tokens_of, IsUnbroken}
use Rattle.tk_writers.specs.Written.{spaced_numbers}
use Rattle.tk_lines.proofs.Sections.MiddleOfSection.{token, tokens_of-run, tokens_of-last}
use Rattle.tk_lines.proofs.KnownWordLines.{OnOneLine}

-- ---- digits

abbrev pub IsDigit : ℕ → Type 0
IsDigit b = (48 ≤ b) × (b ≤ 57)

pub is_digit : (b : ℕ) → IsDigit b → is_ascii_digit b ≡ true
is_digit b h = let low : leb 48 b ≡ true = le-leb _ _ h.0 in let high : leb b 57 ≡ true = le-leb _ _ h.1 in
    rw (low, high) refl

-- a digit is no byte before the digits
pub digit_apart : (b k : ℕ) → IsDigit b → k < 48 → eqb b k ≡ false
digit_apart b k h low = ne_eqb b k (λ e. omega (arith, h.0))

pub digit_solid : (b : ℕ) → IsDigit b → is_blank b ≡ false
digit_solid b h =
    rw (digit_apart b 32 h (omega arith), digit_apart b 9 h (omega arith), digit_apart b 13 h (omega arith)) refl

-- digits that spell a number, and are a run
pub record Spelled (n : ℕ) (ds : List ℕ) : Type 0 where
  pub all : AllByRecursion IsDigit ds
  pub some : is_empty ds ≡ false
  pub is : digits 0 ds ≡ Some n

all_push : (ds : List ℕ) (d : ℕ) → AllByRecursion IsDigit ds → IsDigit d → AllByRecursion IsDigit (ds ++ d ∷ [])
all_push [] d all digit = (digit, tt)
all_push (b ∷ ds) d all digit = (all.0, all_push ds d all.1 digit)

some_push : (ds : List ℕ) (d : ℕ) → is_empty (ds ++ d ∷ []) ≡ false
some_push [] d = refl
some_push (b ∷ ds) d = refl

digits_push : (k : ℕ) (ds : List ℕ) (d m : ℕ) → AllByRecursion IsDigit ds → IsDigit d → digits k ds ≡ Some m →
    digits k (ds ++ d ∷ []) ≡ Some (m * 10 + (d - 48))
digits_push k [] d m all digit is =
    let same : k ≡ m = ap (λ o. unwrap_or o 0) is in
    rw (is_digit d digit) (ap (λ i. Some (i * 10 + (d - 48))) same)
digits_push k (b ∷ ds) d m all digit is =
    let head = is_digit b all.0 in
    rw head (digits_push (k * 10 + (b - 48)) ds d m all.1 digit (rw head at is))

spelled_one : (n : ℕ) → n < 10 → Spelled n ((48 + n) ∷ [])
spelled_one n small =
    let digit : IsDigit (48 + n) = (omega arith, omega arith) in
    record { all = (digit, tt); some = refl; is = rw (is_digit (48 + n) digit) (ap Some (omega arith)) }

spelled_more : (n : ℕ) (ds : List ℕ) → 10 ≤ n → Spelled (n / 10) ds → Spelled n (ds ++ ((48 + n % 10) ∷ []))
spelled_more n ds many s =
    let digit : IsDigit (48 + n % 10) = (omega arith, omega arith) in
    record {
      all = all_push ds (48 + n % 10) s.all digit;
      some = some_push ds (48 + n % 10);
      is = digits_push 0 ds (48 + n % 10) (n / 10) s.all digit s.is ∙ ap Some (omega arith);
    }

-- below 10^18, as the digits of an integer go
abbrev pub IsShort : ℕ → Type 0
IsShort n = n < 1000000000000000000

pub spelled : (n : ℕ) → IsShort n → Spelled n (decimal n)
spelled n small = decimal_by_steps Spelled spelled_one spelled_more n (omega arith)

pub short_decimal : (n : ℕ) → IsShort n → length (decimal n) ≤ 18
short_decimal n small = length-decimal-le 18 n (omega arith) small (omega arith)

integer_spelled : (n : ℕ) (ds : List ℕ) → Spelled n ds → length ds ≤ 18 → integer ds ≡ Some (pos n)
integer_spelled n [] s short = absurd (let k = s.some in cc)
integer_spelled n (b ∷ bs) s short =
    let minus = digit_apart b 45 s.all.0 (omega arith) in
    let plus = digit_apart b 43 s.all.0 (omega arith) in
    let few : ltb 18 (length (b ∷ bs)) ≡ false = le-ltb _ _ short in
    let is = s.is in
    rw (minus, plus, few, is) refl

pub integer_decimal : (n : ℕ) → IsShort n → integer (decimal n) ≡ Some (pos n)
integer_decimal n small = integer_spelled n (decimal n) (spelled n small) (short_decimal n small)

-- ---- runs and lines

digits_run : (ds : List ℕ) → AllByRecursion IsDigit ds → is_empty ds ≡ false → IsUnbroken ds
digits_run [] all some = absurd (let k = some in cc)
digits_run (b ∷ []) all some = digit_solid b all.0
digits_run (b ∷ c ∷ ds) all some = (digit_solid b all.0, digits_run (c ∷ ds) all.1 refl)

pub decimal_run : (n : ℕ) → IsShort n → IsUnbroken (decimal n)
decimal_run n small = let s = spelled n small in digits_run (decimal n) s.all s.some

pub one_line_append : (xs ys : List ℕ) → OnOneLine xs → OnOneLine ys → OnOneLine (xs ++ ys)
one_line_append [] ys h k = k
one_line_append (x ∷ xs) ys h k = (h.0, one_line_append xs ys h.1 k)

digits_line : (ds : List ℕ) → AllByRecursion IsDigit ds → OnOneLine ds
digits_line [] all = tt
digits_line (b ∷ ds) all = (digit_apart b 10 all.0 (omega arith), digits_line ds all.1)

pub decimal_line : (n : ℕ) → IsShort n → OnOneLine (decimal n)
decimal_line n small = digits_line (decimal n) (spelled n small).all

-- ---- numbers with spaces between them

abbrev pub AllShort : List ℕ → Type 0
AllShort xs = AllByRecursion IsShort xs

abbrev spaced : List ℕ → List ℕ
spaced xs = flat_map (λ y. codes " " ++ decimal y) xs

spaced_line : (xs : List ℕ) → AllShort xs → OnOneLine (spaced xs)
spaced_line [] small = tt
spaced_line (x ∷ xs) small =
    (refl, one_line_append (decimal x) (spaced xs) (decimal_line x small.0) (spaced_line xs small.1))

pub numbers_line : (x : ℕ) (xs : List ℕ) → AllShort (x ∷ xs) → OnOneLine (spaced_numbers (x ∷ xs))
numbers_line x xs small = one_line_append (decimal x) (spaced xs) (decimal_line x small.0) (spaced_line xs small.1)

abbrev pub number_token : ℕ → ℕ → Token
number_token n x = token (decimal x) n

numbers_from : (n x : ℕ) (xs : List ℕ) → AllShort (x ∷ xs) →
    tokens_of true n (decimal x ++ spaced xs) ≡ map (number_token n) (x ∷ xs)
numbers_from n x [] small = ap (tokens_of true n) (append-nil (decimal x))
    ∙ tokens_of-last n (decimal x) (decimal_run x small.0)
numbers_from n x (y ∷ ys) small =
    tokens_of-run true n (decimal x) 32 (decimal y ++ spaced ys) (decimal_run x small.0) refl
    ∙ ap (λ (ts : List Token). number_token n x ∷ ts) (numbers_from n y ys small.1)

pub numbers_tokens : (n x : ℕ) (xs : List ℕ) → AllShort (x ∷ xs) →
    tokens_of true n (spaced_numbers (x ∷ xs)) ≡ map (number_token n) (x ∷ xs)
numbers_tokens n x xs small = numbers_from n x xs small
