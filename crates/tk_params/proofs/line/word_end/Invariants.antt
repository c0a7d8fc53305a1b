use Rattle.std.proofs.Common.{◌≡◌, [], take}
use Rattle.tk_words.specs.Lex.{behind, is_word_byte}
use Rattle.tk_params.proofs.line.word_end.Given as goal

abbrev pub invariant-loop-i : goal.invariant-loop-i
invariant-loop-i l = record { word : behind is_word_byte (take l.i l.line) ≡ [] }
