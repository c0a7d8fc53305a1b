use Rattle.std.proofs.Common.{◌≡◌, ◌≤◌, ◌-◌, ◌++◌, length, take, drop}
use Rattle.std.specs.Char.{is_ascii_digit}
use Rattle.tk_words.specs.Lex.{front, behind}
use Rattle.tk_words.proofs.numbers.decimals.split_digits.Given as goal

abbrev pub invariant-loop-end : goal.invariant-loop-end
invariant-loop-end l = record {
  within : l.end ≤ length l.bytes;
  digits : take l.end l.bytes ++ front is_ascii_digit (drop l.end l.bytes) ≡ front is_ascii_digit l.bytes;
  rest : behind is_ascii_digit (drop l.end l.bytes) ≡ behind is_ascii_digit l.bytes;
}

abbrev pub decreases-loop-end : goal.decreases-loop-end
decreases-loop-end l = length l.initial.bytes - l.end
