-- Decimal numbers, in billionths.
use Rattle.std.specs.Prelude.{ℕ, ◌+◌, ◌-◌, ◌*◌, ◌/◌, ◌^◌, ◌&&◌, ◌||◌, ◌==◌, nat_lt, nat_le, List, [], ◌∷◌, ◌++◌, length}
use Rattle.std.specs.Prelude.{Option, Some, None, Result, Ok, Err, ℤ, pos, neg_ℤ, if◌then◌else◌, option_map, fold}
use Rattle.std.specs.Char.{is_ascii_digit}
use Rattle.std.specs.Int.RustNames.{unsigned_abs}
use Rattle.tk_problem.specs.Places.{greatest_coordinate}
use Rattle.tk_words.specs.declared.fault.TextKind.{TextKind}
use Rattle.tk_words.specs.declared.fault.TextKind.TheVariants as kinds
use Rattle.tk_words.specs.Lex.{front, behind, is_empty, natural}

-- the number that the digits of n, followed by these digits, spell
abbrev pub number_behind : ℕ → List ℕ → ℕ
number_behind n digits = fold (λ m d. m * 10 + (d - 48)) n digits

abbrev pub number_of : List ℕ → ℕ
number_of digits = number_behind 0 digits

-- the digits after a point
abbrev pub fraction : List ℕ → List ℕ
fraction [] = []
fraction (b ∷ bs) = if b == 46 then front is_ascii_digit bs else []

-- the bytes after a point and its digits
abbrev pub behind_fraction : List ℕ → List ℕ
behind_fraction [] = []
behind_fraction (b ∷ bs) = if b == 46 then behind is_ascii_digit bs else b ∷ bs

-- the number that 1 to 3 digits spell
abbrev pub small : List ℕ → Option ℕ
small bs = if nat_lt 3 (length bs) then None else natural bs

-- the powers of ten by which a number is multiplied and divided
abbrev pub Powers : Type 0
Powers = ℕ × ℕ

abbrev pub powers : List ℕ → Option Powers
powers [] = None
powers (b ∷ bs) =
    if b == 45 then option_map (λ n. (0, n)) (small bs)
    else option_map (λ n. (n, 0)) (small (if b == 43 then bs else b ∷ bs))

-- nothing, or an exponent: `e`, an optional sign and 1 to 3 digits
abbrev pub exponent : List ℕ → Option Powers
exponent [] = Some (0, 0)
exponent (b ∷ bs) = if b == 101 || b == 69 then powers bs else None

-- a number without its sign, in billionths, rounded down: digits with at most one point, at least one digit, and an
-- optional exponent
abbrev pub billionths : List ℕ → Option ℕ
billionths bs =
    let whole = front is_ascii_digit bs in
    let rest = behind is_ascii_digit bs in
    if is_empty whole && is_empty (fraction rest) then None
    else option_map (λ e. number_of (whole ++ fraction rest) * 10 ^ (9 + e.0) / 10 ^ (length (fraction rest) + e.1))
    (exponent (behind_fraction rest))

-- a decimal number in billionths, rounded towards zero
abbrev pub decimal_of : List ℕ → Option ℤ
decimal_of [] = None
decimal_of (b ∷ bs) =
    if b == 45 then option_map (λ n. neg_ℤ (pos n)) (billionths bs)
    else option_map pos (billionths (if b == 43 then bs else b ∷ bs))

-- a number whose magnitude is at most the maximum of a coordinate
abbrev pub limited : Option ℤ → Result ℤ TextKind
limited None = Err kinds.BadNumber
limited (Some z) = if nat_le (unsigned_abs z) greatest_coordinate then Ok z else Err kinds.OutOfLimit
