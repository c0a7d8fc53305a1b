-- all bytes before this one are of the word
use Rattle.std.proofs.Common.{◌≡◌, drop}
use Rattle.tk_words.specs.Lex.{behind, is_word_byte}
use Rattle.tk_kinds.proofs.lines.word_end.Given as goal

abbrev pub invariant-loop-i : goal.invariant-loop-i
invariant-loop-i l = behind is_word_byte (drop l.i l.line) ≡ behind is_word_byte l.line
