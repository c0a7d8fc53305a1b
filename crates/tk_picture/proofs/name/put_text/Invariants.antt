-- the characters before this one are put
use Rattle.std.specs.Prelude.{flat_map}
use Rattle.tk_writers.specs.Pens.{Puts}
use Rattle.tk_picture.specs.Names.{shown_byte}
use Rattle.tk_picture.proofs.name.put_text.Given as goal

abbrev pub invariant-loop-c : goal.invariant-loop-c
invariant-loop-c g l = Puts g.W.Sink l.initial.pen l.pen (flat_map shown_byte l.yielded)
