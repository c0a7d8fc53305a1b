-- all bytes before this one are blanks
use Rattle.std.proofs.Common.{◌≡◌, drop}
use Rattle.tk_words.specs.Lex.{behind, is_blank}
use Rattle.tk_kinds.proofs.lines.without_blanks.Given as goal

abbrev pub invariant-loop-i : goal.invariant-loop-i
invariant-loop-i l = behind is_blank (drop l.i l.bytes) ≡ behind is_blank l.bytes
