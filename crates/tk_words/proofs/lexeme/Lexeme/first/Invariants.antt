-- the bytes before this one are digits, which spell the number
use Rattle.std.proofs.Common.{◌≡◌, ◌<◌, ◌^◌, Some, take}
use Rattle.tk_words.specs.Lex.{digits}
use Rattle.tk_words.proofs.lexeme.Lexeme.first.Given as goal

abbrev pub invariant-loop-i : goal.invariant-loop-i
invariant-loop-i l = record {
  small : l.number < 10 ^ l.i;
  spelled : digits 0 (take l.i l.bytes) ≡ Some l.number;
}
