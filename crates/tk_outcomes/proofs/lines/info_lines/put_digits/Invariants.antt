-- the digits before this place are put
use Rattle.std.proofs.Common.{◌≡◌, ◌≤◌, ℕ, List, ◌++◌}
use Rattle.tk_writers.specs.Pens.{Puts}
use Rattle.tk_outcomes.specs.Lines.InfoLines.{fraction_digits}
use Rattle.tk_outcomes.proofs.lines.info_lines.put_digits.Given as goal

abbrev pub invariant-loop-places : goal.invariant-loop-places
invariant-loop-places g l =
    (text : List ℕ) × Puts g.W.Sink l.initial.pen l.pen text
    × (text ++ fraction_digits l.places l.rest ≡ fraction_digits 9 l.fraction) × (l.places ≤ 9)

abbrev pub decreases-loop-places : goal.decreases-loop-places
decreases-loop-places g l = l.places
