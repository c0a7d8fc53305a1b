-- The -1 that ends a list.
use Rattle.std.specs.Prelude.{ℕ, Bool, false, not, ◌&&◌, ◌||◌, ◌==◌, List, [], ◌∷◌, ◌++◌, Option, Some, ℤ, negsuc}
use Rattle.std.specs.Prelude.{if◌then◌else◌}
use Rattle.tk_words.specs.Lex.{Token, integer}

abbrev pub is_minus_one : Option ℤ → Bool
is_minus_one (Some (negsuc n)) = n == 0
is_minus_one _ = false

abbrev pub is_ending : Token → Bool
is_ending t = t.whole && is_minus_one (integer t.bytes)

-- bytes that are -1, or become -1 if a 1 follows them
abbrev pub begins_minus_one : List ℕ → Bool
begins_minus_one bs = is_minus_one (integer bs) || is_minus_one (integer (bs ++ 49 ∷ []))

-- an incomplete token that is -1 or may become -1
abbrev pub may_be_ending : Token → Bool
may_be_ending t = not t.whole && begins_minus_one t.bytes

-- 1 if the next token is one more -1 or may become one, otherwise 0
abbrev pub one_more : List Token → ℕ
one_more [] = 0
one_more (t ∷ ts) = if is_ending t || may_be_ending t then 1 else 0
