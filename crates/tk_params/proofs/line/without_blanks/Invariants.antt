use Rattle.std.proofs.Common.{◌≡◌, [], take}
use Rattle.tk_words.specs.Lex.{behind, is_blank}
use Rattle.tk_params.proofs.line.without_blanks.Given as goal

abbrev pub invariant-loop-i : goal.invariant-loop-i
invariant-loop-i l = record { blanks : behind is_blank (take l.i l.bytes) ≡ [] }
