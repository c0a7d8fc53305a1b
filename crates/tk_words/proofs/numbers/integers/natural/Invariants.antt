use Rattle.std.proofs.Common.{◌≡◌, ◌<◌, ◌^◌, drop}
use Rattle.tk_words.specs.Lex.{digits}
use Rattle.tk_words.proofs.numbers.integers.natural.Given as goal

abbrev pub invariant-loop-byte : goal.invariant-loop-byte
invariant-loop-byte l = record {
  small : l.number < 10 ^ l.byte-index;
  rest : digits l.number (drop l.byte-index l.bytes) ≡ digits 0 l.bytes;
}
