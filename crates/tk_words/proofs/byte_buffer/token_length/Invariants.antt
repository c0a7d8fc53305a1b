-- no byte before this one ends a token
use Rattle.std.proofs.Common.{◌≡◌, ◌||◌, ◌==◌, false, All, take}
use Rattle.tk_words.specs.Lex.{is_blank}
use Rattle.tk_words.proofs.byte_buffer.token_length.Given as goal

abbrev pub invariant-loop-i : goal.invariant-loop-i
invariant-loop-i l = All (λ b. (is_blank b || b == 10) ≡ false) (take l.i l.bytes)
