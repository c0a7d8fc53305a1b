-- the line of the byte before this one
use Rattle.std.proofs.Common.{◌≡◌, take}
use Rattle.tk_words.specs.Texts.{line_behind}
use Rattle.tk_kinds.proofs.lines.last_line.Given as goal

abbrev pub invariant-loop-i : goal.invariant-loop-i
invariant-loop-i l = l.line ≡ line_behind (take l.i l.text)
