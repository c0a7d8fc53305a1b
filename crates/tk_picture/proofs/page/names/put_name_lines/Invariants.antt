-- the names before this one are put
use Rattle.std.proofs.Common.{take}
use Rattle.tk_writers.specs.Pens.{Puts}
use Rattle.tk_picture.specs.PageText.{name_lines}
use Rattle.tk_picture.proofs.page.names.put_name_lines.Given as goal

abbrev pub invariant-loop-name : goal.invariant-loop-name
invariant-loop-name g l = Puts g.W.Sink l.initial.pen l.pen (name_lines (take l.name-index l.names))
