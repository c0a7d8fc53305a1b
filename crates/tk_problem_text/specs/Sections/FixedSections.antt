-- Sections with a fixed number of tokens.
use Rattle.std.specs.Prelude.{ℕ, Bool, false, nat_le, min, List, [], ◌∷◌, ◌++◌, length, Option}
use Rattle.std.specs.Prelude.{Some, None, if◌then◌else◌}
use Rattle.tk_words.specs.declared.fault.TextKind.{TextKind}
use Rattle.tk_words.specs.declared.fault.TextKind.TheVariants as kinds
use Rattle.tk_words.specs.Lex.{Token}
use Rattle.tk_lines.specs.Pieces.{Extent, Stop, Fault, checked, or_else, After, Early}
use Rattle.tk_words.specs.Entry.{is_keyword}
use Rattle.tk_lines.specs.Lists.{trailing_stop}

-- the tests of a token, given the tokens before it
abbrev pub TokenTests : Type 0
TokenTests = List Token → Token → List (Bool × TextKind)

-- Truncated for a keyword; then the tests of the token
abbrev pub all_tests : TokenTests → TokenTests
all_tests tests before t = (is_keyword t.bytes, kinds.Truncated) ∷ tests before t

-- the first stop among the tokens of a section
unfoldable pub tokens_stop : TokenTests → List Token → List Token → Option Stop
tokens_stop tests before [] = None
tokens_stop tests before (t ∷ ts) =
    or_else (checked 64 t (all_tests tests before t)) (tokens_stop tests (before ++ t ∷ []) ts)

abbrev pub fixed_extent : ℕ → List Token → Extent
fixed_extent count toks =
    record { count = min count (length toks); closed = nat_le count (length toks); at_eof = false }

-- the stop at the end of the tokens: Truncated if there are too few and no more can follow, TrailingData if more data
-- is on their last line
abbrev pub fixed_end : After → Option Stop
fixed_end (Early line whole) = if whole then Some (Fault line kinds.Truncated) else None
fixed_end after = trailing_stop after
