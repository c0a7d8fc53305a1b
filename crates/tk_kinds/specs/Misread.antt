-- Tokens that are not the numbers that are expected.
use Rattle.std.specs.Prelude.{ℕ, Bool, ◌||◌, ◌==◌, List, [], ◌∷◌, codes, if◌then◌else◌}
use Rattle.tk_words.specs.Words.{spells}
use Rattle.tk_kinds.specs.declared.misread.Misread.{Misread}
use Rattle.tk_kinds.specs.declared.misread.Misread.TheVariants as tokens
use Rattle.tk_kinds.specs.Lines.{contains}

abbrev pub without_sign : List ℕ → List ℕ
without_sign [] = []
without_sign (b ∷ bs) = if b == 45 || b == 43 then bs else b ∷ bs

abbrev pub is_undefined : List ℕ → Bool
is_undefined token = spells (without_sign token) (codes "NAN")

abbrev pub is_infinite : List ℕ → Bool
is_infinite token = spells (without_sign token) (codes "INF") || spells (without_sign token) (codes "INFINITY")

-- a comma, a #, nan, inf, a decimal point, or none of these
abbrev pub misread_of : List ℕ → Misread
misread_of token =
    if contains 44 token then tokens.Comma
    else (if contains 35 token then tokens.Comment
    else (if is_undefined token then tokens.Undefined
    else (if is_infinite token then tokens.Infinite
    else (if contains 46 token then tokens.Decimal else tokens.Word))))
