-- all bytes before this one are of a list
use Rattle.std.proofs.Common.{◌≡◌, drop}
use Rattle.tk_words.specs.Lex.{behind}
use Rattle.tk_kinds.specs.Foreign.{is_list_byte}
use Rattle.tk_kinds.proofs.foreign.is_list.Given as goal

abbrev pub invariant-loop-i : goal.invariant-loop-i
invariant-loop-i l = behind is_list_byte (drop l.i l.line) ≡ behind is_list_byte l.line
