-- all bytes before this one are of the token
use Rattle.std.proofs.Common.{◌≡◌, drop}
use Rattle.tk_words.specs.Lex.{behind}
use Rattle.tk_kinds.specs.Lines.{is_solid}
use Rattle.tk_kinds.proofs.lines.token_end.Given as goal

abbrev pub invariant-loop-i : goal.invariant-loop-i
invariant-loop-i l = behind is_solid (drop l.i l.bytes) ≡ behind is_solid l.bytes
