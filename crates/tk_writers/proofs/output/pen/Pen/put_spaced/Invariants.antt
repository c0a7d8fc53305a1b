-- the numbers before this one are put, each after a space
use Rattle.std.proofs.Common.{◌++◌, take}
use Rattle.std.specs.Prelude.{flat_map, codes, decimal}
use Rattle.tk_writers.specs.Pens.{Puts}
use Rattle.tk_writers.proofs.output.pen.Pen.put_spaced.Given as goal

abbrev pub invariant-loop-number : goal.invariant-loop-number
invariant-loop-number g l =
    Puts g.W.Sink l.initial.self l.self
    (flat_map (λ y. codes " " ++ decimal y) (take l.number-index l.rest))
